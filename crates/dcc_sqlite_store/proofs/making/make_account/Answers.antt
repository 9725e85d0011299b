use Rattle.sqlite.specs.Held.{state}
use Rattle.dcc_sqlite_store.proofs.Creates.{made_account}
use Rattle.dcc_sqlite_store.proofs.making.make_account.Goals as goal

pub returns-clause-made : goal.returns-clause-made
returns-clause-made g c clean inside has none = made_account (state g.S.Store c.args.tx.now.conn.now) (state g.S.Store c.execute.new.self.conn.now) c.in_ok-execute.field-0 has none (c.in_ok-execute.ensures.runs clean inside)
