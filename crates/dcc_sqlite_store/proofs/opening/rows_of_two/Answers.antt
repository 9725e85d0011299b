use Rattle.sqlite.specs.Held.{state}
use Rattle.dcc_sqlite_store.proofs.Opened.{crash_then}
use Rattle.dcc_sqlite_store.proofs.opening.rows_of_two.Goals as goal

pub returns-in_err-second-clause-crash : goal.returns-in_err-second-clause-crash
returns-in_err-second-clause-crash g c =
    crash_then (state g.S.Store c.args.conn.now) (state g.S.Store c.rows_of.new.conn) (state g.S.Store c.rows_of-2.new.conn) c.in_err-second.ensures.clean c.in_ok-first.ensures.same c.in_ok-first.ensures.crash c.in_err-second.ensures.crash

pub returns-clause-crash : goal.returns-clause-crash
returns-clause-crash g c =
    crash_then (state g.S.Store c.args.conn.now) (state g.S.Store c.rows_of.new.conn) (state g.S.Store c.rows_of-2.new.conn) c.in_ok-second.ensures.clean c.in_ok-first.ensures.same c.in_ok-first.ensures.crash c.in_ok-second.ensures.crash
