use Rattle.sqlite.specs.Held.{state}
use Rattle.dcc_sqlite_store.proofs.Opened.{crash_then, same_then}
use Rattle.dcc_sqlite_store.proofs.opening.read_store.Goals as goal

pub returns-in_err-books-clause-crash : goal.returns-in_err-books-clause-crash
returns-in_err-books-clause-crash g c =
    crash_then (state g.S.Store c.args.conn.now) (state g.S.Store c.rows_of_two.new.conn) (state g.S.Store c.rows_of_two-2.new.conn) c.in_err-books.ensures.clean c.in_ok-labels.ensures.same c.in_ok-labels.ensures.crash c.in_err-books.ensures.crash

pub returns-in_err-accounts-clause-crash : goal.returns-in_err-accounts-clause-crash
returns-in_err-accounts-clause-crash g c =
    let a = state g.S.Store c.args.conn.now in
    let b = state g.S.Store c.rows_of_two.new.conn in
    let m = state g.S.Store c.rows_of_two-2.new.conn in
    let one = crash_then a b m c.in_ok-books.ensures.clean c.in_ok-labels.ensures.same c.in_ok-labels.ensures.crash c.in_ok-books.ensures.crash in
    crash_then a m (state g.S.Store c.rows_of.new.conn) c.in_err-accounts.ensures.clean (same_then a b m c.in_ok-books.ensures.clean c.in_ok-labels.ensures.same c.in_ok-books.ensures.same) one c.in_err-accounts.ensures.crash

pub returns-clause-crash : goal.returns-clause-crash
returns-clause-crash g c =
    let a = state g.S.Store c.args.conn.now in
    let b = state g.S.Store c.rows_of_two.new.conn in
    let m = state g.S.Store c.rows_of_two-2.new.conn in
    let one = crash_then a b m c.in_ok-books.ensures.clean c.in_ok-labels.ensures.same c.in_ok-labels.ensures.crash c.in_ok-books.ensures.crash in
    crash_then a m (state g.S.Store c.rows_of.new.conn) c.in_ok-accounts.ensures.clean (same_then a b m c.in_ok-books.ensures.clean c.in_ok-labels.ensures.same c.in_ok-books.ensures.same) one c.in_ok-accounts.ensures.crash
