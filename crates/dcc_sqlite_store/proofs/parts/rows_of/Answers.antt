use Rattle.sqlite.specs.Held.{state}
use Rattle.dcc_sqlite_store.proofs.Loads.{probed_crash}
use Rattle.dcc_sqlite_store.proofs.parts.rows_of.Goals as goal

pub returns-clause-crash : goal.returns-clause-crash
returns-clause-crash g c = probed_crash (state g.S.Store c.args.conn.now) (state g.S.Store c.read_part.new.conn) (state g.S.Store c.prepare.new.self) c.read_part.ensures.crash c.prepare.ensures.survives
