-- The state that records over a connection keep.
use Rattle.std.specs.Prelude.{◌≡◌, false, IsTrue, List}
use Rattle.sqlite.specs.State.{State}
use Rattle.dcc_tariff.specs.Terms.{TermsView}
use Rattle.dcc_act.specs.declared.sub.Sub.{Sub}
use Rattle.dcc_store.specs.Books.{Held}
use Rattle.dcc_sqlite_store.specs.Tables.{layout}
use Rattle.dcc_sqlite_store.specs.Content.{HoldsBook}
use Rattle.dcc_sqlite_rows.specs.declared.tally.Tally.{Tally}
use Rattle.dcc_sqlite_store.specs.inner.Tallies.{AreTallies}
use Rattle.dcc_sqlite_store.specs.inner.Trees.{account_tree, IsKeyed}

-- the connection is open, in no transaction, over the tables of this book
pub record Keeps (terms : TermsView) (s : State) (held : Held) : Type 0 where
  pub is_open : IsTrue s.is_open
  pub autocommit : s.in_transaction ≡ false
  pub settled : s.now ≡ s.committed
  pub schema : s.now.schema ≡ layout
  pub keyed : IsKeyed (s.now.trees account_tree)
  pub holds : HoldsBook terms s.now.trees held

-- the tables hold a book, and these are the tallies of the book
abbrev pub KeepsBook : TermsView → State → List (Sub × Tally) → Type 0
KeepsBook terms s tallies = (held : Held) × Keeps terms s held × AreTallies terms tallies held
