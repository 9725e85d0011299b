use Rattle.std.proofs.Common.{◌≡◌, ◌++◌, ◌+◌, ◌≤◌, vec_len, vec_capacity}
use Rattle.std.specs.Prelude.{map}
use Rattle.dcc_running.specs.inner.Wards.{AreBeside, side_in, shard_in}
use Rattle.dcc_running.proofs.books.parted.Given as goal

abbrev pub invariant-loop-wards : goal.invariant-loop-wards
invariant-loop-wards g l = record {
  shards : l.shards.items ++ map shard_in l.wards.items ≡ map shard_in l.fn.wards.items;
  sides : l.sides.items ++ map side_in l.wards.items ≡ map side_in l.fn.wards.items;
  begun : AreBeside g.J.Naming.opening l.sides.items l.shards.items;
  count : vec_len l.shards + vec_len l.wards ≡ vec_len l.fn.wards;
  each : vec_len l.sides ≡ vec_len l.shards;
  room : vec_len l.fn.wards ≤ vec_capacity l.shards;
  room_for_sides : vec_len l.fn.wards ≤ vec_capacity l.sides;
  back : vec_len l.fn.wards ≤ vec_capacity l.wards;
}

abbrev pub decreases-loop-wards : goal.decreases-loop-wards
decreases-loop-wards g l = vec_len l.wards
