use Rattle.std.proofs.Common.{◌≡◌, ◌≤◌, ◌+◌, ◌++◌, take, vec_len, vec_capacity}
use Rattle.dcc_running.specs.inner.Batches.{all_end_receipts}
use Rattle.dcc_running.proofs.batches.keep_ends.Given as goal

abbrev pub invariant-loop-at : goal.invariant-loop-at
invariant-loop-at l = record {
  receipts : l.receipts.items ≡ l.fn.receipts.items ++ all_end_receipts l.moment (take l.at l.subs) (take l.at l.replies);
  few : vec_len l.receipts ≤ vec_len l.fn.receipts + l.at;
  room : vec_capacity l.receipts ≡ vec_capacity l.fn.receipts;
}
