use Rattle.std.proofs.Common.{arith}
use Rattle.dcc_running.specs.inner.Wards.{IsBeside, shard_in, side_in}
use Rattle.dcc_running.proofs.Walks.{all_made, first_pair, made_on, other_pairs}
use Rattle.dcc_running.proofs.shards.warded.Goals as goal

pub new-requires : goal.new-requires
new-requires g c =
    first_pair (IsBeside g.J.Naming.opening) c.loop-sides.sides.items c.loop-sides.shards.items _ _ c.loop-sides.invariant.begun (omega (arith, c.loop-sides.shards.ok.0))
    c.remove-side.ensures.value c.remove.ensures.value

pub loop-sides-preserved : goal.loop-sides-preserved
loop-sides-preserved g c = record {
  shards = rw (c.push_reserved.ensures.items, c.remove.ensures.items)
      (made_on shard_in c.loop-sides.wards.items c.loop-sides.shards.items c.args.shards.items c.new.result c.remove.result
      (omega (arith, c.loop-sides.shards.ok.0)) c.remove.ensures.value c.new.ensures.shard c.loop-sides.invariant.shards);
  sides = rw (c.push_reserved.ensures.items, c.remove-side.ensures.items)
      (made_on side_in c.loop-sides.wards.items c.loop-sides.sides.items c.args.sides.items c.new.result c.remove-side.result
      (omega (arith, c.loop-sides.sides.ok.0)) c.remove-side.ensures.value c.new.ensures.side c.loop-sides.invariant.sides);
  begun = rw (c.remove.ensures.items, c.remove-side.ensures.items)
      (other_pairs (IsBeside g.J.Naming.opening) c.loop-sides.sides.items c.loop-sides.shards.items c.loop-sides.invariant.begun);
  each = omega arith;
  count = omega arith;
  room = omega arith;
  back = omega arith;
  back_too = omega arith;
}

pub returns-clause-shards : goal.returns-clause-shards
returns-clause-shards g c =
    all_made shard_in c.loop-sides.wards.items c.loop-sides.shards.items c.args.shards.items (omega (arith, c.loop-sides.shards.ok.0)) c.loop-sides.invariant.shards

pub returns-clause-sides : goal.returns-clause-sides
returns-clause-sides g c =
    all_made side_in c.loop-sides.wards.items c.loop-sides.sides.items c.args.sides.items (omega (arith, c.loop-sides.sides.ok.0)) c.loop-sides.invariant.sides
