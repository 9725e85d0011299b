use Rattle.std.proofs.Common.{ℕ, ◌-◌, ◌≤◌, [], vec_len, vec_capacity}
use Rattle.dcc_lane.specs.Ends.{IsSameReceiver}
use Rattle.dcc_rounds.specs.inner.Batches.{IsGathered, IsOneBatch}
use Rattle.dcc_rounds.proofs.batch.gather.Given as goal

abbrev pub invariant-loop-from : goal.invariant-loop-from
invariant-loop-from g l = record {
  gathered : IsGathered l.fn.from l.fn.batch.items l.from l.batch.items [];
  one : IsOneBatch l.shards.count l.batch.items;
  same : IsSameReceiver l.fn.from l.from;
  room : 64 ≤ vec_capacity l.batch;
}

abbrev pub decreases-loop-from : goal.decreases-loop-from
decreases-loop-from g l = 64 - vec_len l.batch
