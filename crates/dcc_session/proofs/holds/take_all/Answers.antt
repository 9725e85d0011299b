use Rattle.std.proofs.Common.{arith}
use Rattle.dcc_session.proofs.Covering.{covered_part}
use Rattle.dcc_session.proofs.holds.take_all.Goals as goal

pub unwrap-hold-requires : goal.unwrap-hold-requires
unwrap-hold-requires c =
    let covered = covered_part c.args.pool.now c.args.grants.now c.loop-held.held-index c.held-item.result (omega arith) c.held-item.is c.requires.covered in
    c.take.ensures.given.1 (rw (c.loop-held.invariant.2, c.price_held.ensures.value) covered)
