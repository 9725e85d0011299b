-- The rows of a book, each table in the order of its key.
use Rattle.std.specs.Prelude.{◌≡◌, ◌≢◌, ℕ, List, [], slice_get, Some}
use Rattle.std.specs.declared.cmp.Ordering.{Ordering}
use Rattle.std.specs.List.Sorted.{IsSorted}
use Rattle.std.specs.Ordering.{on, then_cmp}
use Rattle.sqlite.specs.Order.{Row, column, value_cmp}
use Rattle.dcc_tariff.specs.Terms.{TermsView}
use Rattle.dcc_act.specs.declared.act.Act.{Act}
use Rattle.dcc_act.specs.declared.sub.Sub.{Sub}
use Rattle.dcc_act_codec.specs.Limits.{IsAct}
use Rattle.dcc_store.specs.Books.{Held, PageView, IsBook}
use Rattle.dcc_sqlite_rows.specs.Pages.{IsSub}
use Rattle.dcc_sqlite_rows.specs.Held.{AreJust, IsActRow, IsEntryRow, IsAccountRow}
use Rattle.dcc_sqlite_rows.specs.Stored.{Rows, IsDamaged, AreOfBook}

-- the order of rows by the keys of their tables: the subscriber, the place, and the line
abbrev pub account_order : Row → Row → Ordering
account_order = on (λ row. column row 0) value_cmp

abbrev pub act_order : Row → Row → Ordering
act_order = then_cmp (on (λ row. column row 0) value_cmp) (on (λ row. column row 1) value_cmp)

abbrev pub entry_order : Row → Row → Ordering
entry_order = then_cmp (on (λ row. column row 0) value_cmp) (then_cmp (on (λ row. column row 1) value_cmp) (on (λ row. column row 2) value_cmp))

-- the rows are the rows of this book under these terms, and each table is in the order of its key
pub record AreHeld (terms : TermsView) (held : Held) (rows : Rows) : Type 0 where
  pub own : IsBook terms held
  pub subs : (sub : Sub) → held sub ≢ [] → IsSub sub
  pub fits : (sub : Sub) (i : ℕ) (act : Act) → slice_get (held sub) i ≡ Some act → IsAct act
  pub acts : AreJust rows.acts (IsActRow held)
  pub entries : AreJust rows.entries (IsEntryRow terms held)
  pub accounts : AreJust rows.accounts (IsAccountRow terms held)
  pub acts_sorted : IsSorted act_order rows.acts
  pub entries_sorted : IsSorted entry_order rows.entries
  pub accounts_sorted : IsSorted account_order rows.accounts

-- the rows of a book are the rows of its pages, one page after another
abbrev pub BooksHavePages : Type 0
BooksHavePages = (terms : TermsView) (held : Held) (rows : Rows) → AreHeld terms held rows → (pages : List PageView) × AreOfBook terms pages rows

-- no row of a book is damaged
abbrev pub BooksAreWhole : Type 0
BooksAreWhole = (terms : TermsView) (held : Held) (rows : Rows) → AreHeld terms held rows → ¬ IsDamaged rows
