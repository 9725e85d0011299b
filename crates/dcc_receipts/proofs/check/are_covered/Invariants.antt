use Rattle.std.proofs.Common.{ℕ, ◌<◌, ◌≤◌}
use Rattle.dcc_receipts.specs.Audit.{times}
use Rattle.dcc_receipts.proofs.check.are_covered.Given as goal

abbrev pub invariant-loop-before : goal.invariant-loop-before
invariant-loop-before l = (place : ℕ) → 0 < place → place ≤ l.before → 0 < times place l.receipts
