use Rattle.dcc_running.proofs.Telling.{told_more}
use Rattle.dcc_running.proofs.books.acts_in.Goals as goal

pub loop-side-preserved : goal.loop-side-preserved
loop-side-preserved c =
    told_more c.args.sides.now c.loop-side.side-index c.side-item.result c.loop-side.count c.acts.result c.saturating_add-count.result c.loop-side-test.true c.side-item.is
    c.loop-side.invariant c.acts.ensures c.saturating_add-count.ensures
