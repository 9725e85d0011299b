use Rattle.std.proofs.Common.{◌≡◌, take}
use Rattle.dcc_act.proofs.services.copied.Given as goal

abbrev pub invariant-loop-service : goal.invariant-loop-service
invariant-loop-service l = l.copies.items ≡ take l.service-index l.services
