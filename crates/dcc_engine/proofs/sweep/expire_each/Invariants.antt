use Rattle.std.proofs.Common.{◌≡◌, ◌≤◌, ◌++◌, length, take, drop, vec_capacity}
use Rattle.std.specs.List.Sorted.{IsStrictlySortedBy}
use Rattle.dcc_shard.specs.Routes.{route_order}
use Rattle.dcc_shard.specs.Answers.{expiry_act}
use Rattle.dcc_shard.specs.Shards.{AreOwn}
use Rattle.dcc_engine.specs.inner.Sweeps.{IsSwept}
use Rattle.dcc_engine.proofs.sweep.expire_each.Given as goal

abbrev pub invariant-loop-sub : goal.invariant-loop-sub
invariant-loop-sub g l = record {
  swept : IsSwept l.fn.shards.shard l.shards.shard (take l.sub-index l.subs) l.refused.items (expiry_act l.moment);
  few : length l.refused.items ≤ l.sub-index;
  room : length l.subs ≤ vec_capacity l.refused;
  own : AreOwn l.shards.shard;
  count : length l.shards.parts ≡ length l.fn.shards.parts;
  order : IsStrictlySortedBy (route_order (length l.fn.shards.parts)) (l.refused.items ++ drop l.sub-index l.subs);
}
