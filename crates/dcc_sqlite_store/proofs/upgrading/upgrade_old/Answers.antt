use Rattle.sqlite.specs.Held.{state}
use Rattle.dcc_sqlite_store.proofs.Opened.{layout_then}
use Rattle.dcc_sqlite_store.proofs.Steps.{earlier}
use Rattle.dcc_sqlite_store.proofs.Upgraded.{has_upgraded, upgrade_survives, read_survives}
use Rattle.dcc_sqlite_store.proofs.upgrading.upgrade_old.Goals as goal

pub returns-in_err-book-clause-crash : goal.returns-in_err-book-clause-crash
returns-in_err-book-clause-crash g c = read_survives c.args.setting.now (state g.S.Store c.args.conn.now) (state g.S.Store c.read_old_book.new.conn) c.in_err-book.ensures.crash

pub returns-in-Ok-clause-upgraded : goal.returns-in-Ok-clause-upgraded
returns-in-Ok-clause-upgraded g c clean has was =
    let old = state g.S.Store c.args.conn.now in
    let mid = state g.S.Store c.read_old_book.new.conn in
    let new = state g.S.Store c.remake_store-made.new.conn in
    let law = c.pages_hold_their_rows.ensures in
    let before = c.old_pages_hold_their_rows.ensures in
    let it = c.in-Ok.ensures in
    let early = earlier mid new _ it.crash clean in
    let mid_has = layout_then old mid new it.clean c.in_ok-book.ensures.same clean has in
    has_upgraded law.acts law.entries law.accounts law.book law.fit law.subs before.acts before.fit before.pages c.args.setting.now old mid new c.in_ok-book.book c.in_ok-book.count was (c.in_ok-book.ensures.shown early has)
    (rw c.as_slice.ensures.value at it.made clean mid_has)

pub returns-in-Ok-clause-crash : goal.returns-in-Ok-clause-crash
returns-in-Ok-clause-crash g c =
    let law = c.pages_hold_their_rows.ensures in
    let before = c.old_pages_hold_their_rows.ensures in
    upgrade_survives law.acts law.entries law.accounts law.book law.fit law.subs before.acts before.fit before.pages c.args.setting.now (state g.S.Store c.args.conn.now) (state g.S.Store c.read_old_book.new.conn) (state g.S.Store c.remake_store-made.new.conn) c.in_ok-book.book c.in_ok-book.count c.in_ok-book.ensures.same c.in_ok-book.ensures.shown c.in_ok-book.ensures.crash
    (rw c.as_slice.ensures.value at c.in-Ok.ensures.crash)

pub returns-in-Err-clause-crash : goal.returns-in-Err-clause-crash
returns-in-Err-clause-crash g c =
    let law = c.pages_hold_their_rows.ensures in
    let before = c.old_pages_hold_their_rows.ensures in
    upgrade_survives law.acts law.entries law.accounts law.book law.fit law.subs before.acts before.fit before.pages c.args.setting.now (state g.S.Store c.args.conn.now) (state g.S.Store c.read_old_book.new.conn) (state g.S.Store c.remake_store-made.new.conn) c.in_ok-book.book c.in_ok-book.count c.in_ok-book.ensures.same c.in_ok-book.ensures.shown c.in_ok-book.ensures.crash
    (rw c.as_slice.ensures.value at c.in-Err.ensures.crash)
