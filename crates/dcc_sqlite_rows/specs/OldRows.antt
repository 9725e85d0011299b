-- The rows of a store of layout 1, which keeps acts as records of version 1. Entries and accounts are as in layout 2.
use Rattle.std.specs.Prelude.{◌≡◌, ◌≢◌, ◌⊎◌, ℕ, ◌+◌, List, [], ◌∷◌, ◌++◌, slice_get, Some}
use Rattle.std.specs.List.{Contains, AllByRecursion}
use Rattle.std.specs.List.Sorted.{IsSorted}
use Rattle.sqlite.specs.declared.types.Value.TheVariants.{Int, Blob}
use Rattle.sqlite.specs.Order.{Row}
use Rattle.dcc_tariff.specs.Terms.{TermsView}
use Rattle.dcc_act.specs.declared.act.Act.{Act}
use Rattle.dcc_act.specs.declared.sub.Sub.{Sub}
use Rattle.dcc_act_codec.specs.OldRecords.{old_record_of, IsOldAct}
use Rattle.dcc_store.specs.Books.{Held, PageView, AreInOrder, acts_in, IsBook}
use Rattle.dcc_sqlite_rows.specs.Rows.{sub_octets, act_row}
use Rattle.dcc_sqlite_rows.specs.Pages.{IsSub, IsOwn, book_entry_rows, book_account_rows}
use Rattle.dcc_sqlite_rows.specs.Stored.{Rows, HasRowOfNobody}
use Rattle.dcc_sqlite_rows.specs.Held.{AreJust, IsEntryRow, IsAccountRow}
use Rattle.dcc_sqlite_rows.specs.Ordered.{act_order, entry_order, account_order}
use Rattle.dcc_sqlite_rows.specs.declared.line.Line.{Line}

-- the row of an act of a subscriber, at whatever place
abbrev pub old_line_row : Line → Row
old_line_row line = Blob (sub_octets line.sub) ∷ Int line.place ∷ Blob (old_record_of line.act) ∷ []

-- the row is the row of some act of some subscriber
abbrev pub IsOldLine : Row → Type 0
IsOldLine row = (line : Line) × IsSub line.sub × IsOldAct line.act × (row ≡ old_line_row line)

-- some row is no act's, or does not begin with a subscriber
abbrev pub IsOldDamaged : Rows → Type 0
IsOldDamaged rows = ((row : Row) × Contains rows.acts row × (¬ IsOldLine row)) ⊎ HasRowOfNobody rows

-- a page has acts of a subscriber, each of which has a record of version 1
pub record IsOldPage (page : PageView) : Type 0 where
  pub is_of : IsSub page.sub
  pub some : page.acts ≢ []
  pub fit : AllByRecursion IsOldAct page.acts

-- the rows of acts that stand behind so many other acts
abbrev pub old_act_rows_from : List ℕ → ℕ → List Act → List Row
old_act_rows_from sub before [] = []
old_act_rows_from sub before (act ∷ more) = act_row sub (before + 1) (old_record_of act) ∷ old_act_rows_from sub (before + 1) more

-- the rows of the acts of one page, and of all pages
abbrev pub old_page_act_rows : PageView → List Row
old_page_act_rows page = old_act_rows_from (sub_octets page.sub) 0 page.acts

abbrev pub old_book_act_rows : List PageView → List Row
old_book_act_rows [] = []
old_book_act_rows (page ∷ pages) = old_page_act_rows page ++ old_book_act_rows pages

-- The rows are the rows of a book of these pages under these terms.
pub record AreOfOldBook (terms : TermsView) (pages : List PageView) (rows : Rows) : Type 0 where
  pub ordered : AreInOrder pages
  pub valid : AllByRecursion IsOldPage pages
  pub own : AllByRecursion (IsOwn terms) pages
  pub acts : rows.acts ≡ old_book_act_rows pages
  pub entries : rows.entries ≡ book_entry_rows terms pages
  pub accounts : rows.accounts ≡ book_account_rows terms pages

-- the row of a held act; places count from 1
abbrev pub IsOldActRow : Held → Row → Type 0
IsOldActRow held row = (sub : Sub) × (i : ℕ) × (act : Act) × (slice_get (held sub) i ≡ Some act) × (row ≡ act_row (sub_octets sub) (i + 1) (old_record_of act))

-- the rows are the rows of this book under these terms, and each table is in the order of its key
pub record AreOldHeld (terms : TermsView) (held : Held) (rows : Rows) : Type 0 where
  pub own : IsBook terms held
  pub subs : (sub : Sub) → held sub ≢ [] → IsSub sub
  pub fits : (sub : Sub) (i : ℕ) (act : Act) → slice_get (held sub) i ≡ Some act → IsOldAct act
  pub acts : AreJust rows.acts (IsOldActRow held)
  pub entries : AreJust rows.entries (IsEntryRow terms held)
  pub accounts : AreJust rows.accounts (IsAccountRow terms held)
  pub acts_sorted : IsSorted act_order rows.acts
  pub entries_sorted : IsSorted entry_order rows.entries
  pub accounts_sorted : IsSorted account_order rows.accounts

-- the rows of acts of pages are the rows of the book that the pages are, and no others
abbrev pub OldPagesHoldTheirActs : Type 0
OldPagesHoldTheirActs = (pages : List PageView) → AreInOrder pages → AllByRecursion IsOldPage pages → AreJust (old_book_act_rows pages) (IsOldActRow (acts_in pages))

-- the acts of pages have records of version 1
abbrev pub OldPagesFit : Type 0
OldPagesFit = (pages : List PageView) → AllByRecursion IsOldPage pages → (sub : Sub) (i : ℕ) (act : Act) → slice_get (acts_in pages sub) i ≡ Some act → IsOldAct act

-- the rows of a book are the rows of its pages, one page after another
abbrev pub OldBooksHavePages : Type 0
OldBooksHavePages = (terms : TermsView) (held : Held) (rows : Rows) → AreOldHeld terms held rows → (pages : List PageView) × AreOfOldBook terms pages rows

-- no row of a book is damaged
abbrev pub OldBooksAreWhole : Type 0
OldBooksAreWhole = (terms : TermsView) (held : Held) (rows : Rows) → AreOldHeld terms held rows → ¬ IsOldDamaged rows
