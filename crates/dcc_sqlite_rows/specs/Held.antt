-- The rows of a book, whatever their order.
use Rattle.std.specs.Prelude.{◌≡◌, ◌≢◌, ℕ, ◌+◌, ◌<◌, AllPairs, List, [], length, slice_get, Some}
use Rattle.std.specs.List.{Contains, AllByRecursion}
use Rattle.sqlite.specs.Order.{Row}
use Rattle.dcc_tariff.specs.Terms.{TermsView}
use Rattle.dcc_act.specs.declared.act.Act.{Act}
use Rattle.dcc_act.specs.declared.entry.Entry.{Entry}
use Rattle.dcc_act.specs.declared.sub.Sub.{Sub}
use Rattle.dcc_model.specs.Outcomes.{funds}
use Rattle.dcc_act_codec.specs.Limits.{IsAct}
use Rattle.dcc_act_codec.specs.Records.{record_of}
use Rattle.dcc_store.specs.Books.{Held, PageView, AreInOrder, acts_in, IsBook}
use Rattle.dcc_sqlite_rows.specs.Rows.{sub_octets, act_row, entry_row, account_row}
use Rattle.dcc_sqlite_rows.specs.Pages.{entries_at, IsSub, IsPage, IsOwn, book_act_rows, book_entry_rows, book_account_rows}

-- the row of a held act; places count from 1
abbrev pub IsActRow : Held → Row → Type 0
IsActRow held row = (sub : Sub) × (i : ℕ) × (act : Act) × (slice_get (held sub) i ≡ Some act) × (row ≡ act_row (sub_octets sub) (i + 1) (record_of act))

-- the row of an entry of a held act; lines count from 1
abbrev pub IsEntryRow : TermsView → Held → Row → Type 0
IsEntryRow terms held row =
    (sub : Sub) × (i : ℕ) × (j : ℕ) × (entry : Entry) × (i < length (held sub)) × (slice_get (entries_at terms (held sub) i) j ≡ Some entry)
    × (row ≡ entry_row (sub_octets sub) (i + 1) (j + 1) entry)

-- the row of the account of a subscriber that has acts
abbrev pub IsAccountRow : TermsView → Held → Row → Type 0
IsAccountRow terms held row = (sub : Sub) × (held sub ≢ []) × (row ≡ account_row (sub_octets sub) (length (held sub)) (funds terms (held sub)))

-- a table has each such row once, and no other row, in any order
pub record AreJust (rows : List Row) (Says : Row → Type 0) : Type 0 where
  pub there : (row : Row) → Says row → Contains rows row
  pub only : (row : Row) → Contains rows row → Says row
  pub once : AllPairs (λ one other. one ≢ other) rows

-- the rows of pages are the rows of the book that the pages are, and no others
abbrev pub PagesHoldTheirActs : Type 0
PagesHoldTheirActs = (pages : List PageView) → AreInOrder pages → AllByRecursion IsPage pages → AreJust (book_act_rows pages) (IsActRow (acts_in pages))

abbrev pub PagesHoldTheirEntries : Type 0
PagesHoldTheirEntries = (terms : TermsView) (pages : List PageView) → AreInOrder pages → AllByRecursion IsPage pages
    → AreJust (book_entry_rows terms pages) (IsEntryRow terms (acts_in pages))

abbrev pub PagesHoldTheirAccounts : Type 0
PagesHoldTheirAccounts = (terms : TermsView) (pages : List PageView) → AreInOrder pages → AllByRecursion IsPage pages
    → AreJust (book_account_rows terms pages) (IsAccountRow terms (acts_in pages))

-- pages are a book if the acts of each page are exactly those that its own list makes
abbrev pub PagesMakeABook : Type 0
PagesMakeABook = (terms : TermsView) (pages : List PageView) → AllByRecursion (IsOwn terms) pages → IsBook terms (acts_in pages)

-- the acts of pages are within their limits
abbrev pub PagesFit : Type 0
PagesFit = (pages : List PageView) → AllByRecursion IsPage pages → (sub : Sub) (i : ℕ) (act : Act) → slice_get (acts_in pages sub) i ≡ Some act → IsAct act

-- a subscriber that has acts is within its limits
abbrev pub PagesAreOfSubs : Type 0
PagesAreOfSubs = (pages : List PageView) → AllByRecursion IsPage pages → (sub : Sub) → acts_in pages sub ≢ [] → IsSub sub
