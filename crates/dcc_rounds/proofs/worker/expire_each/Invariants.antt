use Rattle.std.proofs.Common.{◌≡◌, ◌+◌, take}
use Rattle.dcc_rounds.specs.Working.{ExpiresEach, KeepsCalls}
use Rattle.dcc_rounds.proofs.worker.expire_each.Given as goal

abbrev pub invariant-loop-sub : goal.invariant-loop-sub
invariant-loop-sub g l = record {
  expired : ExpiresEach l.moment (take l.sub-index l.subs) l.fn.seat l.seat;
  left : l.counter.left + l.sub-index ≡ l.fn.counter.left;
  calls : KeepsCalls l.fn.counter l.counter;
  shard : l.counter.shard ≡ l.fn.counter.shard;
}
