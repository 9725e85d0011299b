use Rattle.std.proofs.Common.{◌≡◌, map, take}
use Rattle.dcc_credit.specs.Acts.{service_of}
use Rattle.dcc_credit.proofs.act.services_of.Given as goal

abbrev pub invariant-loop-service : goal.invariant-loop-service
invariant-loop-service l = l.made.items ≡ map (service_of l.plan l.moment l.kind) (take l.service-index l.services)
