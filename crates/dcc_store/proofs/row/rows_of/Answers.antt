use Rattle.std.proofs.Common.{◌∙◌}
use Rattle.dcc_store.specs.inner.Rows.{acts_at}
use Rattle.dcc_store.proofs.Adding.{next_row}
use Rattle.dcc_store.proofs.row.rows_of.Goals as goal

pub loop-one-preserved : goal.loop-one-preserved
loop-one-preserved c =
    next_row c.args.log.now c.loop-one.one-index c.one-item.result c.sub.result c.in-Ok.act (acts_at c.loop-one.rows.entries) (acts_at c.add.new.rows.entries) c.one-item.is c.loop-one-test.true
    c.sub.ensures (c.in-Ok.ensures ∙ c.act.ensures) c.in_ok-add-in-Ok.ensures c.loop-one.invariant
