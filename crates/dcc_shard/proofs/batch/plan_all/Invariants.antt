use Rattle.std.proofs.Common.{◌≡◌, ◌+◌, ◌≤◌, ◌++◌, length, vec_capacity}
use Rattle.std.specs.Vec.Iter.{into_iter_items}
use Rattle.std.specs.List.{AllZip, AllByRecursion}
use Rattle.dcc_shard.specs.inner.Plans.{IsPlan, IsStanding, IsSameWithRoom, shard_of_books}
use Rattle.dcc_shard.proofs.batch.plan_all.Given as goal

abbrev pub invariant-loop-call : goal.invariant-loop-call
invariant-loop-call g l = record {
  all : l.yielded ++ into_iter_items l.call-iterator ≡ l.fn.calls.items;
  room : length (into_iter_items l.call-iterator) + length l.plans.items ≤ vec_capacity l.plans;
  plans : AllZip (IsPlan (shard_of_books l.identity l.fn.kept.books)) l.yielded l.plans.items;
  standing : AllByRecursion (IsStanding l.kept.books l.kept.openers l.number) l.plans.items;
  stays : IsSameWithRoom l.fn.kept l.kept;
}
