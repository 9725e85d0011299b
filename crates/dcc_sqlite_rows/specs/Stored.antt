-- The meaning of rows that were read.
use Rattle.std.specs.Prelude.{◌≡◌, ◌⊎◌, List, [], ◌∷◌}
use Rattle.std.specs.List.{Contains, AllByRecursion}
use Rattle.sqlite.specs.declared.types.Value.TheVariants.{Int, Blob}
use Rattle.sqlite.specs.Order.{Row, column}
use Rattle.dcc_tariff.specs.Terms.{TermsView}
use Rattle.dcc_act.specs.declared.sub.Sub.{Sub}
use Rattle.dcc_act_codec.specs.Limits.{IsAct}
use Rattle.dcc_act_codec.specs.Records.{record_of}
use Rattle.dcc_store.specs.Books.{PageView, AreInOrder}
use Rattle.dcc_sqlite_rows.specs.Rows.{sub_octets}
use Rattle.dcc_sqlite_rows.specs.Pages.{IsSub, IsPage, IsOwn, book_act_rows, book_entry_rows, book_account_rows}
use Rattle.dcc_sqlite_rows.specs.declared.line.Line.{Line}

-- the row of an act of a subscriber, at whatever place
abbrev pub line_row : Line → Row
line_row line = Blob (sub_octets line.sub) ∷ Int line.place ∷ Blob (record_of line.act) ∷ []

-- the row is the row of some act of some subscriber
abbrev pub IsLine : Row → Type 0
IsLine row = (line : Line) × IsSub line.sub × IsAct line.act × (row ≡ line_row line)

-- the row begins with a subscriber
abbrev pub IsOfSub : Row → Type 0
IsOfSub row = (sub : Sub) × IsSub sub × (column row 0 ≡ Blob (sub_octets sub))

-- the rows that were read of the tables of acts, of entries and of accounts
pub record Rows : Type 0 where
  pub acts : List Row
  pub entries : List Row
  pub accounts : List Row

-- some row of an entry or of an account does not begin with a subscriber
abbrev pub HasRowOfNobody : Rows → Type 0
HasRowOfNobody rows = ((row : Row) × Contains rows.entries row × (¬ IsOfSub row)) ⊎ ((row : Row) × Contains rows.accounts row × (¬ IsOfSub row))

-- some row is no act's, or does not begin with a subscriber
abbrev pub IsDamaged : Rows → Type 0
IsDamaged rows = ((row : Row) × Contains rows.acts row × (¬ IsLine row)) ⊎ HasRowOfNobody rows

-- The rows are the rows of a book of these pages under these terms.
pub record AreOfBook (terms : TermsView) (pages : List PageView) (rows : Rows) : Type 0 where
  pub ordered : AreInOrder pages
  pub valid : AllByRecursion IsPage pages
  pub own : AllByRecursion (IsOwn terms) pages
  pub acts : rows.acts ≡ book_act_rows pages
  pub entries : rows.entries ≡ book_entry_rows terms pages
  pub accounts : rows.accounts ≡ book_account_rows terms pages
