use Rattle.std.proofs.Common.{◌≡◌, ◌+◌, ◌≤◌, ◌++◌, length, vec_capacity}
use Rattle.std.specs.Vec.Iter.{into_iter_items}
use Rattle.std.specs.List.{AllZip}
use Rattle.dcc_shard.specs.inner.Plans.{IsInstead}
use Rattle.dcc_shard.proofs.batch.refuse_plans.Given as goal

abbrev pub invariant-loop-plan : goal.invariant-loop-plan
invariant-loop-plan l = record {
  all : l.yielded ++ into_iter_items l.plan-iterator ≡ l.fn.plans.items;
  room : length (into_iter_items l.plan-iterator) + length l.replies.items ≤ vec_capacity l.replies;
  instead : AllZip (IsInstead l.identity l.going) l.yielded l.replies.items;
}
