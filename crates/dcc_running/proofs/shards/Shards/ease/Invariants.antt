use Rattle.std.proofs.Common.{◌≡◌, ◌≤◌, length, vec_len}
use Rattle.dcc_running.proofs.shards.Shards.ease.Given as goal

abbrev pub invariant-loop-at : goal.invariant-loop-at
invariant-loop-at g l = record {
  few : l.at ≤ vec_len l.touched;
  left : l.left ≤ length l.receipts;
  shard : l.shard.shard ≡ l.fn.shard.shard;
  records : l.shard.records ≡ l.fn.shard.records;
}

abbrev pub decreases-loop-at : goal.decreases-loop-at
decreases-loop-at g l = l.at
