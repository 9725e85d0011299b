use Rattle.std.proofs.Common.{◌≡◌, [], IsTrue, take}
use Rattle.sqlite.specs.State.{HasCleanDisk, Survives, KeepsCommit}
use Rattle.sqlite.specs.Held.{state}
use Rattle.dcc_sqlite_rows.specs.Pages.{act_rows_from, entry_rows_to}
use Rattle.dcc_sqlite_store.specs.Tables.{layout}
use Rattle.dcc_sqlite_store.specs.inner.Trees.{HasRun}
use Rattle.dcc_sqlite_store.specs.inner.Refilling.{Gathers}
use Rattle.dcc_sqlite_store.proofs.refilling.add_acts.Given as goal

abbrev pub invariant-loop-i : goal.invariant-loop-i
invariant-loop-i g l = record {
  reference : l.tx.conn.ghost_name ≡ l.initial.tx.conn.ghost_name;
  terms : l.account.terms ≡ l.initial.account.terms;
  acts : l.account.acts ≡ take l.i l.all;
  survives : Survives (state g.S.Store l.initial.tx.conn.now) (state g.S.Store l.tx.conn.now) (λ _. ⊥);
  inside : HasCleanDisk (state g.S.Store l.tx.conn.now) → IsTrue (state g.S.Store l.initial.tx.conn.now).in_transaction → IsTrue (state g.S.Store l.tx.conn.now).in_transaction;
  kept : HasCleanDisk (state g.S.Store l.tx.conn.now) → IsTrue (state g.S.Store l.initial.tx.conn.now).in_transaction → KeepsCommit (state g.S.Store l.initial.tx.conn.now) (state g.S.Store l.tx.conn.now);
  ran :
      HasCleanDisk (state g.S.Store l.tx.conn.now) → IsTrue (state g.S.Store l.initial.tx.conn.now).in_transaction → (state g.S.Store l.initial.tx.conn.now).now.schema ≡ layout
      → HasRun (Gathers (act_rows_from l.sub 0 (take l.i l.all)) (entry_rows_to l.initial.account.terms l.sub l.all l.i) []) (state g.S.Store l.initial.tx.conn.now) (state g.S.Store l.tx.conn.now);
}
