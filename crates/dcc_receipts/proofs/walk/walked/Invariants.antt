use Rattle.std.proofs.Common.{◌≡◌, ◌-◌, ◌<◌, ◌≤◌, ℕ, true}
use Rattle.dcc_receipts.specs.Marks.{is_at}
use Rattle.dcc_receipts.proofs.walk.walked.Given as goal

abbrev pub invariant-loop-upto : goal.invariant-loop-upto
invariant-loop-upto l = record {
  least : l.begun ≤ l.upto;
  marked : (place : ℕ) → l.begun < place → place ≤ l.upto → is_at l.own place ≡ true;
}

abbrev pub decreases-loop-upto : goal.decreases-loop-upto
decreases-loop-upto l = l.to - l.upto
