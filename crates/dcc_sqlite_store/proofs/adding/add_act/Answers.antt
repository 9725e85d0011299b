use Rattle.sqlite.specs.Held.{state}
use Rattle.dcc_sqlite_store.proofs.Inserts.{adds_act}
use Rattle.dcc_sqlite_store.proofs.adding.add_act.Goals as goal

pub returns-clause-added : goal.returns-clause-added
returns-clause-added g c clean inside has =
    adds_act (state g.S.Store c.args.tx.now.conn.now) (state g.S.Store c.execute.new.self.conn.now) c.args.sub.now c.args.body.now c.args.place c.in_ok-execute.field-0 has
    (rw (c.params-to_sql.ensures, c.params-to_sql-2.ensures, c.params-to_sql-3.ensures) at c.in_ok-execute.ensures.runs clean inside)
