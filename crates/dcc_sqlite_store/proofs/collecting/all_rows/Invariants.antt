use Rattle.std.proofs.Common.{◌≡◌, false, [], vec_len}
use Rattle.sqlite.specs.State.{HasCleanDisk, IsUnchanged, Survives, CommitsShowing}
use Rattle.sqlite.specs.Held.{state}
use Rattle.sqlite.specs.Given.{IsPlain, HasGiven}
use Rattle.sqlite.specs.Listing.{understood}
use Rattle.dcc_sqlite_store.proofs.collecting.all_rows.Given as goal

abbrev pub invariant-rows : goal.invariant-rows
invariant-rows g l =
    let old = state g.S.Store l.fn.conn in
    let now = state g.S.Store l.rows.conn.now in
    (vec_len l.all ≡ l._done) × (l.rows.conn.ghost_name ≡ l.initial.rows.conn.ghost_name) × (l.fn.conn.in_transaction ≡ false → l.rows.conn.now.in_transaction ≡ false) × Survives old now (CommitsShowing l.sql [] old)
    × (HasCleanDisk now → IsPlain (understood l.fn.conn.schema l.sql) → HasGiven g.S.Store l.sql [] l.rows.conn.now l.all.items × IsUnchanged old now)
