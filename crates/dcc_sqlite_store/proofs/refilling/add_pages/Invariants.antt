use Rattle.std.proofs.Common.{◌≡◌, IsTrue, take}
use Rattle.sqlite.specs.State.{HasCleanDisk, Survives, KeepsCommit}
use Rattle.sqlite.specs.Held.{state}
use Rattle.dcc_sqlite_store.specs.Tables.{layout}
use Rattle.dcc_sqlite_store.proofs.Gathering.{HasFilled}
use Rattle.dcc_sqlite_store.proofs.refilling.add_pages.Given as goal

abbrev pub invariant-loop-i : goal.invariant-loop-i
invariant-loop-i g l = record {
  reference : l.tx.conn.ghost_name ≡ l.initial.tx.conn.ghost_name;
  survives : Survives (state g.S.Store l.initial.tx.conn.now) (state g.S.Store l.tx.conn.now) (λ _. ⊥);
  inside : HasCleanDisk (state g.S.Store l.tx.conn.now) → IsTrue (state g.S.Store l.initial.tx.conn.now).in_transaction → IsTrue (state g.S.Store l.tx.conn.now).in_transaction;
  kept : HasCleanDisk (state g.S.Store l.tx.conn.now) → IsTrue (state g.S.Store l.initial.tx.conn.now).in_transaction → KeepsCommit (state g.S.Store l.initial.tx.conn.now) (state g.S.Store l.tx.conn.now);
  ran : HasCleanDisk (state g.S.Store l.tx.conn.now) → IsTrue (state g.S.Store l.initial.tx.conn.now).in_transaction → (state g.S.Store l.initial.tx.conn.now).now.schema ≡ layout
      → HasFilled l.terms (take l.i l.pages) (state g.S.Store l.initial.tx.conn.now) (state g.S.Store l.tx.conn.now);
}
