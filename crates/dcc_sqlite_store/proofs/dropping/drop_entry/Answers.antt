use Rattle.sqlite.specs.Held.{state}
use Rattle.dcc_sqlite_store.proofs.Drops.{dropped_entry}
use Rattle.dcc_sqlite_store.proofs.dropping.drop_entry.Goals as goal

pub returns-clause-left : goal.returns-clause-left
returns-clause-left g c clean inside has = dropped_entry (state g.S.Store c.args.tx.now.conn.now) (state g.S.Store c.execute.new.self.conn.now) c.in_ok-execute.field-0 has (c.in_ok-execute.ensures.runs clean inside)
