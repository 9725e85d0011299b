use Rattle.std.proofs.Common.{vec_len, arith}
use Rattle.dcc_running.proofs.Places.{one_placed}
use Rattle.dcc_running.proofs.shards.locked.Goals as goal

pub loop-locks-preserved : goal.loop-locks-preserved
loop-locks-preserved g c = record {
  count = omega arith;
  room = omega arith;
  back = omega arith;
  places = rw c.push_reserved.ensures.items
      (one_placed (vec_len c.args.wards) c.len-index.result c.len-count.result c.loop-locks.locks.items c.new.result c.loop-locks.invariant.places
      (omega (arith, c.loop-locks.locks.ok.0)) c.len-count.ensures c.new.ensures);
}
