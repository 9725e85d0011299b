use Rattle.std.proofs.Common.{◌≤◌, take, vec_capacity}
use Rattle.dcc_operator.specs.inner.Batches.{IsMadeOf}
use Rattle.dcc_operator.proofs.many.make.Given as goal

abbrev pub invariant-loop-ask : goal.invariant-loop-ask
invariant-loop-ask g l = record {
  made : IsMadeOf l.fn.shard.shard l.shard.shard (take l.ask-index l.fn.asks) l.fn.answers.items l.answers.items;
  kept : vec_capacity l.fn.answers ≤ vec_capacity l.answers;
}
