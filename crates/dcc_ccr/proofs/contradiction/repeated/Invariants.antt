use Rattle.std.proofs.Common.{◌≡◌, drop, take, []}
use Rattle.dcc_ccr.specs.Contradictions.{repeated}
use Rattle.dcc_ccr.proofs.contradiction.repeated.Given as goal

abbrev pub invariant-loop-service : goal.invariant-loop-service
invariant-loop-service l = (l.place ≡ l.service-index)
    × (repeated (take l.service-index l.services) (drop l.service-index l.services) ≡ repeated [] l.services)
