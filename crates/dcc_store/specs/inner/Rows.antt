-- The log of records in memory, and the rows that a load makes of it.
use Rattle.std.specs.Prelude.{List, map, unwrap_or, []}
use Rattle.std.specs.Map.{lookup}
use Rattle.dcc_tariff.specs.Terms.{TermsView}
use Rattle.dcc_act.specs.declared.act.Act.{Act}
use Rattle.dcc_act.specs.declared.sub.Sub.{Sub}
use Rattle.dcc_act.specs.Subs.{same_sub}
use Rattle.dcc_store.specs.Books.{Held, PageView, IsBook, no_acts}
use Rattle.dcc_store.specs.Contents.{IsContentOf}
use Rattle.dcc_store.specs.Batches.{AdditionView, with_all}
use Rattle.dcc_store.specs.Memory.{with_additions, nothing}

-- the held acts of a log
abbrev pub held_in : List AdditionView → Held
held_in log = with_all log no_acts

-- the acts of a log make a book, and the log has the content of this book
pub record IsLog (terms : TermsView) (log : List AdditionView) : Type 0 where
  pub own : IsBook terms (held_in log)
  pub content : IsContentOf terms (held_in log) (with_additions log nothing)

-- the acts in rows of subscribers; none if there is no row
abbrev pub acts_at : List (Sub × List Act) → Held
acts_at rows sub = unwrap_or (lookup (same_sub sub) rows) []

-- the page of a row
abbrev pub page_of : Sub × List Act → PageView
page_of row = record { sub = row.0; acts = row.1 }

abbrev pub pages_of : List (Sub × List Act) → List PageView
pages_of rows = map page_of rows
