use Rattle.std.proofs.Common.{◌≡◌, drop}
use Rattle.dcc_ccr.specs.Contradictions.{place_of}
use Rattle.dcc_ccr.proofs.contradiction.place_of.Given as goal

abbrev pub invariant-loop-other : goal.invariant-loop-other
invariant-loop-other l = (l.place ≡ l.other-index) × (place_of l.service (drop l.other-index l.services) l.place ≡ place_of l.service l.services 0)
