-- A book in the tables.
use Rattle.std.specs.Prelude.{◌≡◌, ◌≢◌, ℕ, [], slice_get, Some}
use Rattle.sqlite.specs.Tree.{Trees}
use Rattle.sqlite.specs.State.{State, HasCleanDisk}
use Rattle.dcc_tariff.specs.Terms.{TermsView}
use Rattle.dcc_act.specs.declared.act.Act.{Act}
use Rattle.dcc_act.specs.declared.sub.Sub.{Sub}
use Rattle.dcc_act_codec.specs.Limits.{IsAct}
use Rattle.dcc_act_codec.specs.OldRecords.{IsOldAct}
use Rattle.dcc_store.specs.Books.{Held, IsBook}
use Rattle.dcc_store.specs.Contents.{Content, IsContentOf}
use Rattle.dcc_sqlite_rows.specs.Pages.{IsSub}
use Rattle.dcc_sqlite_rows.specs.Held.{AreJust, IsActRow, IsEntryRow, IsAccountRow}
use Rattle.dcc_sqlite_rows.specs.OldRows.{IsOldActRow}
use Rattle.dcc_sqlite_store.specs.Trees.{act_rows, entry_rows, account_rows}

-- The tables hold this book under these terms. They have the acts of each subscriber, their entries and the account, each once. The acts
-- are exactly those that their own list makes.
pub record HoldsBook (terms : TermsView) (db : Trees) (held : Held) : Type 0 where
  pub own : IsBook terms held
  pub subs : (sub : Sub) → held sub ≢ [] → IsSub sub
  pub fits : (sub : Sub) (i : ℕ) (act : Act) → slice_get (held sub) i ≡ Some act → IsAct act
  pub acts : AreJust (act_rows db) (IsActRow held)
  pub entries : AreJust (entry_rows db) (IsEntryRow terms held)
  pub accounts : AreJust (account_rows db) (IsAccountRow terms held)

-- The same for the tables of layout 1: the acts have records of version 1.
pub record HoldsOldBook (terms : TermsView) (db : Trees) (held : Held) : Type 0 where
  pub own : IsBook terms held
  pub subs : (sub : Sub) → held sub ≢ [] → IsSub sub
  pub fits : (sub : Sub) (i : ℕ) (act : Act) → slice_get (held sub) i ≡ Some act → IsOldAct act
  pub acts : AreJust (act_rows db) (IsOldActRow held)
  pub entries : AreJust (entry_rows db) (IsEntryRow terms held)
  pub accounts : AreJust (account_rows db) (IsAccountRow terms held)

-- The contents that an opening after a stop may find, if the disk returns what was written: the content of the book that the tables hold, or
-- any content if they hold no book. So a clause by which a stop leaves the content of some book, and nothing else, excludes tables that hold
-- no book.
abbrev pub leaves : TermsView → State → Content → Type 0
leaves terms s content = HasCleanDisk s × ((db : Trees) × s.may_leave db × ((held : Held) → HoldsBook terms db held → IsContentOf terms held content))
