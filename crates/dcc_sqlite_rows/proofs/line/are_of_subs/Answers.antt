use Rattle.dcc_sqlite_rows.specs.Stored.{IsOfSub}
use Rattle.dcc_sqlite_rows.proofs.Lines.{all_more_at, all_at_end}
use Rattle.dcc_sqlite_rows.proofs.line.are_of_subs.Goals as goal

pub loop-row-preserved : goal.loop-row-preserved
loop-row-preserved c =
    all_more_at IsOfSub c.args.rows.now c.loop-row.row-index c.row-item.result c.loop-row-test.true c.row-item.is (c.in-Some._sub, c.in-Some.ensures.valid, c.in-Some.ensures.sub) c.loop-row.invariant

pub returns-clause-all : goal.returns-clause-all
returns-clause-all c _ = all_at_end IsOfSub c.args.rows.now c.loop-row.row-index c.loop-row-test.false c.loop-row.invariant
