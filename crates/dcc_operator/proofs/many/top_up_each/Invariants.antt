use Rattle.std.proofs.Common.{◌≤◌, ◌-◌, length, take, vec_capacity}
use Rattle.dcc_operator.specs.inner.Batches.{IsMadeOf}
use Rattle.dcc_operator.proofs.many.top_up_each.Given as goal

abbrev pub invariant-loop-from : goal.invariant-loop-from
invariant-loop-from g l = record {
  made : IsMadeOf l.fn.shard.shard l.shard.shard (take l.from l.fn.asks) l.fn.answers.items l.answers.items;
  kept : vec_capacity l.fn.answers ≤ vec_capacity l.answers;
  within : l.from ≤ length l.fn.asks;
}

abbrev pub decreases-loop-from : goal.decreases-loop-from
decreases-loop-from g l = length l.asks - l.from
