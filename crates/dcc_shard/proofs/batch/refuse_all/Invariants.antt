use Rattle.std.proofs.Common.{◌≡◌, false, ◌+◌, ◌≤◌, ◌++◌, length, vec_capacity}
use Rattle.std.specs.Vec.Iter.{into_iter_items}
use Rattle.std.specs.List.{AllZip}
use Rattle.dcc_shard.specs.Shards.{ShardView}
use Rattle.dcc_shard.specs.inner.Plans.{IsReplied}
use Rattle.dcc_shard.proofs.batch.refuse_all.Given as goal

abbrev pub invariant-loop-call : goal.invariant-loop-call
invariant-loop-call l = record {
  all : l.yielded ++ into_iter_items l.call-iterator ≡ l.fn.calls.items;
  room : length (into_iter_items l.call-iterator) + length l.replies.items ≤ vec_capacity l.replies;
  replied : (shard : ShardView) → shard.identity ≡ l.identity → AllZip (IsReplied shard false) l.yielded l.replies.items;
}
