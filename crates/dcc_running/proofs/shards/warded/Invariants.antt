use Rattle.std.proofs.Common.{◌≡◌, ◌++◌, ◌+◌, ◌≤◌, vec_len, vec_capacity}
use Rattle.std.specs.Prelude.{map}
use Rattle.dcc_running.specs.inner.Wards.{AreBeside, side_in, shard_in}
use Rattle.dcc_running.proofs.shards.warded.Given as goal

abbrev pub invariant-loop-sides : goal.invariant-loop-sides
invariant-loop-sides g l = record {
  shards : map shard_in l.wards.items ++ l.shards.items ≡ l.fn.shards.items;
  sides : map side_in l.wards.items ++ l.sides.items ≡ l.fn.sides.items;
  begun : AreBeside g.J.Naming.opening l.sides.items l.shards.items;
  each : vec_len l.sides ≡ vec_len l.shards;
  count : vec_len l.wards + vec_len l.shards ≡ vec_len l.fn.shards;
  room : vec_len l.fn.shards ≤ vec_capacity l.wards;
  back : vec_len l.fn.shards ≤ vec_capacity l.shards;
  back_too : vec_len l.fn.shards ≤ vec_capacity l.sides;
}

abbrev pub decreases-loop-sides : goal.decreases-loop-sides
decreases-loop-sides g l = vec_len l.shards
