use Rattle.std.proofs.Common.{[], arith, rules}
use Rattle.sqlite.specs.State.{HasCleanDisk}
use Rattle.sqlite.specs.Held.{state}
use Rattle.dcc_sqlite_store.proofs.Collected.{shown_since, fails_to_query_since}
use Rattle.dcc_sqlite_store.proofs.collecting.all_rows.Goals as goal

pub returns-in_err-row-clause-err : goal.returns-in_err-row-clause-err
returns-in_err-row-clause-err g c clean plain =
    let moved = c.next.follows.holds-at-none in
    let now = c.next.follows.lender-at-none.conn.now in
    let late : HasCleanDisk (state g.S.Store now) = search rules in
    let kept = c.rows.invariant.3 in
    let was = c.rows.invariant.4 (omega (arith, moved.survives.clean)) plain in
    let failed = (rw c.in_err-row.was at (moved.err late)) c.args.sql.now [] c.rows.all.items was.0 in
    let it = fails_to_query_since c.args.sql.now [] (state g.S.Store c.args.conn.now) _ (state g.S.Store now) plain was.1 _ kept.counts kept.limit failed in
    search rules

pub returns-in_default-clause-ok : goal.returns-in_default-clause-ok
returns-in_default-clause-ok g c clean plain =
    let moved = c.next.follows.holds-at-none in
    let now = c.next.follows.lender-at-none.conn.now in
    let late : HasCleanDisk (state g.S.Store now) = search rules in
    let was = c.rows.invariant.4 (omega (arith, moved.survives.clean)) plain in
    let shown = (rw (c.in_ok-row.was, c.in_default.is) at (moved.ok late)) c.args.sql.now [] c.rows.all.items was.0 in
    let it = shown_since c.args.sql.now [] (state g.S.Store c.args.conn.now) _ (state g.S.Store now) plain was.1 c.rows.all.items shown in
    search rules
