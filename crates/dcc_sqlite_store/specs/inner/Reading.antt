-- The state after a read.
use Rattle.std.specs.Prelude.{◌≡◌, ◌≢◌, ◌⊎◌, ℕ, IsTrue, Some, slice_get}
use Rattle.sqlite.specs.Tree.{Trees}
use Rattle.sqlite.specs.State.{State, IsUnchanged}
use Rattle.dcc_act.specs.declared.act.Act.{Act}
use Rattle.dcc_act.specs.declared.sub.Sub.{Sub}
use Rattle.dcc_act_codec.specs.Limits.{IsAct}
use Rattle.dcc_store.specs.Books.{Held}
use Rattle.dcc_sqlite_rows.specs.Held.{AreJust, IsActRow}
use Rattle.sqlite.specs.Query.{Query}
use Rattle.dcc_sqlite_store.specs.Tables.{layout}
use Rattle.dcc_sqlite_store.specs.Trees.{act_rows}
use Rattle.dcc_sqlite_store.specs.Queries.{settings_query, acts_query, entries_query, accounts_query, rowids_query}
use Rattle.dcc_sqlite_store.specs.declared.parts.Part.{Part}
use Rattle.dcc_sqlite_store.specs.declared.parts.Part.TheVariants.{Setting, Acts, Entries, Accounts, Rowids}

-- the query of a part
abbrev pub query_of : Part → Query
query_of Setting = settings_query
query_of Acts = acts_query
query_of Entries = entries_query
query_of Accounts = accounts_query
query_of Rowids = rowids_query

-- nothing is changed; or the connection, if it is still open, went back to the last commit
abbrev pub LeftOrUndone : State → State → Type 0
LeftOrUndone old new = IsUnchanged old new ⊎ (IsTrue new.is_open → (new.now ≡ old.committed) × (new.committed ≡ old.committed))

-- if the connection is open, its state is committed
abbrev pub IsSettled : State → Type 0
IsSettled s = IsTrue s.is_open → s.now ≡ s.committed

-- a statement that reads commits nothing over the layout; over another schema, this excludes nothing
abbrev pub HasOtherLayout : State → Trees → Type 0
HasOtherLayout s _ = s.now.schema ≢ layout

-- the acts of this book are within their limits, and the rows are the rows of these acts
abbrev pub HasActs : Trees → Held → Type 0
HasActs db held = ((sub : Sub) (i : ℕ) (act : Act) → slice_get (held sub) i ≡ Some act → IsAct act) × AreJust (act_rows db) (IsActRow held)
