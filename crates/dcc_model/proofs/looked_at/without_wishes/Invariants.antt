use Rattle.std.proofs.Common.{◌≡◌, map, take}
use Rattle.dcc_model.specs.Sessions.{without_asked}
use Rattle.dcc_model.proofs.looked_at.without_wishes.Given as goal

abbrev pub invariant-loop-service : goal.invariant-loop-service
invariant-loop-service l = l.kept.items ≡ map without_asked (take l.service-index l.services)
