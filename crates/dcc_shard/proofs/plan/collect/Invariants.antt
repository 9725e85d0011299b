use Rattle.std.proofs.Common.{◌≡◌, ◌≤◌, ◌++◌, length, drop, vec_capacity}
use Rattle.dcc_shard.specs.inner.Plans.{additions_in}
use Rattle.dcc_shard.proofs.plan.collect.Given as goal

abbrev pub invariant-loop-plan : goal.invariant-loop-plan
invariant-loop-plan l = record {
  room : length l.additions.items ≤ l.plan-index;
  enough : length l.plans ≤ vec_capacity l.additions;
  left : l.additions.items ++ additions_in (drop l.plan-index l.plans) ≡ additions_in l.plans;
}
