use Rattle.std.proofs.Common.{◌≡◌, ◌+◌, List, length}
use Rattle.dcc_receipts.specs.declared.receipt.Receipt.{Receipt}
use Rattle.dcc_rounds.specs.Working.{ExpiresEach, KeepsCalls}
use Rattle.dcc_rounds.proofs.worker.expire_pieces.Given as goal

abbrev pub invariant-loop-left : goal.invariant-loop-left
invariant-loop-left g l = record {
  expired : (end : List Receipt) → ExpiresEach l.moment l.left l.seat end → ExpiresEach l.moment l.fn.subs l.fn.seat end;
  left : l.counter.left + length l.fn.subs ≡ l.fn.counter.left + length l.left;
  calls : KeepsCalls l.fn.counter l.counter;
  shard : l.counter.shard ≡ l.fn.counter.shard;
}

abbrev pub decreases-loop-left : goal.decreases-loop-left
decreases-loop-left g l = length l.left
