use Rattle.std.proofs.Common.{◌≡◌, ◌≤◌, take}
use Rattle.dcc_running.specs.Acts.{acts_of}
use Rattle.dcc_rounds.proofs.tasks.acts_of.Given as goal

abbrev pub invariant-loop-receipt : goal.invariant-loop-receipt
invariant-loop-receipt l = record {
  count : l.count ≡ acts_of (take l.receipt-index l.receipt-items);
  few : l.count ≤ l.receipt-index;
}
