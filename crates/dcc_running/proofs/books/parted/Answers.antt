use Rattle.std.proofs.Common.{arith}
use Rattle.dcc_running.specs.inner.Wards.{IsBeside, shard_in, side_in}
use Rattle.dcc_running.proofs.Walks.{all_parted, more_pairs, parted_on}
use Rattle.dcc_running.proofs.books.parted.Goals as goal

pub loop-wards-preserved : goal.loop-wards-preserved
loop-wards-preserved g c = record {
  shards = rw (c.push_reserved.ensures.items, c.remove.ensures.items)
      (parted_on shard_in c.loop-wards.shards.items c.loop-wards.wards.items _ c.remove.result c.into_parts-side.result.1 (omega (arith, c.loop-wards.wards.ok.0))
      c.remove.ensures.value c.into_parts-side.ensures.shard c.loop-wards.invariant.shards);
  sides = rw (c.push_reserved-in-loop-wards.ensures.items, c.remove.ensures.items)
      (parted_on side_in c.loop-wards.sides.items c.loop-wards.wards.items _ c.remove.result c.into_parts-side.result.0 (omega (arith, c.loop-wards.wards.ok.0))
      c.remove.ensures.value c.into_parts-side.ensures.side c.loop-wards.invariant.sides);
  begun = rw (c.push_reserved.ensures.items, c.push_reserved-in-loop-wards.ensures.items)
      (more_pairs (IsBeside g.J.Naming.opening) c.loop-wards.sides.items c.loop-wards.shards.items c.into_parts-side.result.0 c.into_parts-side.result.1 c.loop-wards.invariant.begun
      c.into_parts-side.ensures.beside);
  count = omega arith;
  each = omega arith;
  room = omega arith;
  room_for_sides = omega arith;
  back = omega arith;
}

pub returns-clause-shards : goal.returns-clause-shards
returns-clause-shards g c =
    all_parted shard_in c.loop-wards.shards.items c.loop-wards.wards.items _ (omega (arith, c.loop-wards.wards.ok.0)) c.loop-wards.invariant.shards

pub returns-clause-sides : goal.returns-clause-sides
returns-clause-sides g c =
    all_parted side_in c.loop-wards.sides.items c.loop-wards.wards.items _ (omega (arith, c.loop-wards.wards.ok.0)) c.loop-wards.invariant.sides
