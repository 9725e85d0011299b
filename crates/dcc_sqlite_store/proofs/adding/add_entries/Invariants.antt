use Rattle.std.proofs.Common.{◌≡◌, IsTrue, take}
use Rattle.sqlite.specs.State.{HasCleanDisk, Survives, KeepsCommit}
use Rattle.sqlite.specs.Held.{state}
use Rattle.dcc_sqlite_store.specs.Tables.{layout}
use Rattle.dcc_sqlite_rows.specs.Rows.{entry_rows_of}
use Rattle.dcc_sqlite_store.specs.inner.Trees.{AddsEntries, HasRun}
use Rattle.dcc_sqlite_store.proofs.adding.add_entries.Given as goal

abbrev pub invariant-loop-i : goal.invariant-loop-i
invariant-loop-i g l =
    (l.tx.conn.ghost_name ≡ l.initial.tx.conn.ghost_name)
    × Survives (state g.S.Store l.initial.tx.conn.now) (state g.S.Store l.tx.conn.now) (λ _. ⊥)
    × (HasCleanDisk (state g.S.Store l.tx.conn.now) → IsTrue (state g.S.Store l.initial.tx.conn.now).in_transaction
    → IsTrue (state g.S.Store l.tx.conn.now).in_transaction × KeepsCommit (state g.S.Store l.initial.tx.conn.now) (state g.S.Store l.tx.conn.now))
    × (HasCleanDisk (state g.S.Store l.tx.conn.now) → IsTrue (state g.S.Store l.initial.tx.conn.now).in_transaction → (state g.S.Store l.initial.tx.conn.now).now.schema ≡ layout
    → HasRun (AddsEntries (entry_rows_of l.sub l.place 0 (take l.i l.entries))) (state g.S.Store l.initial.tx.conn.now) (state g.S.Store l.tx.conn.now))
