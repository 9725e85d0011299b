-- The rows that are read when a store is opened.
use Rattle.std.specs.Prelude.{List}
use Rattle.sqlite.specs.Tree.{Trees}
use Rattle.dcc_tariff.specs.Terms.{TermsView}
use Rattle.dcc_act.specs.declared.sub.Sub.{Sub}
use Rattle.dcc_store.specs.Books.{PageView, acts_in}
use Rattle.dcc_sqlite_rows.specs.declared.tally.Tally.{Tally}
use Rattle.dcc_sqlite_rows.specs.Stored.{Rows, AreOfBook}
use Rattle.dcc_sqlite_store.specs.Queries.{settings_query, rowids_query, Shows}
use Rattle.dcc_sqlite_store.specs.Opening.{ShowsRows}
use Rattle.dcc_sqlite_store.specs.declared.opening.Found.{Found}
use Rattle.dcc_sqlite_store.specs.inner.Rowids.{AreRising}
use Rattle.dcc_sqlite_store.specs.inner.Tallies.{AreTallies}

abbrev pub rows_in : Found → Rows
rows_in found = record { acts = found.acts.items; entries = found.entries.items; accounts = found.accounts.items }

-- the rows are those that the tables show
pub record ShowsStore (db : Trees) (found : Found) : Type 0 where
  pub setting : Shows settings_query db found.setting.items
  pub rowids : Shows rowids_query db found.rowids.items
  pub rows : ShowsRows db (rows_in found)

-- the rowids rise, and the rows are the rows of a book that has these tallies
pub record IsOfBook (terms : TermsView) (found : Found) (tallies : List (Sub × Tally)) : Type 0 where
  pub rising : AreRising found.rowids.items
  pub pages : List PageView
  pub rows : AreOfBook terms pages (rows_in found)
  pub tallied : AreTallies terms tallies (acts_in pages)
