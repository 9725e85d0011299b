-- The tables in the trees of a database, and the state of a connection that is undone.
use Rattle.std.specs.Prelude.{◌≡◌, ℕ, false, IsTrue, List, [], ◌∷◌, map}
use Rattle.sqlite.specs.Order.{Row, column}
use Rattle.sqlite.specs.Tree.{Trees}
use Rattle.sqlite.specs.State.{State}
use Rattle.sqlite.specs.Effect.{Database, IsDatabase}
use Rattle.dcc_sqlite_store.specs.Tables.{layout}

-- the trees have exactly the tables of a store, and obey their schema
unfoldable pub IsStore : Trees → Type 0
IsStore db = IsDatabase (record { schema = layout; trees = db })

-- the schema of a database over the trees of a store is the layout of a store
abbrev pub StoresHaveTheLayout : Type 0
StoresHaveTheLayout = (db : Database) → IsStore db.trees → IsDatabase db → db.schema ≡ layout

-- the trees of the four tables
abbrev pub setting_tree : ℕ
setting_tree = 0

abbrev pub act_tree : ℕ
act_tree = 1

abbrev pub entry_tree : ℕ
entry_tree = 3

abbrev pub account_tree : ℕ
account_tree = 5

-- the columns of a row of three columns, or of seven, behind its rowid
abbrev pub three_columns : Row → Row
three_columns row = column row 1 ∷ column row 2 ∷ column row 3 ∷ []

abbrev pub seven_columns : Row → Row
seven_columns row = column row 1 ∷ column row 2 ∷ column row 3 ∷ column row 4 ∷ column row 5 ∷ column row 6 ∷ column row 7 ∷ []

-- the columns of the row of a setting, whose number is its rowid
abbrev pub ten_columns : Row → Row
ten_columns row =
    column row 0 ∷ column row 2 ∷ column row 3 ∷ column row 4 ∷ column row 5 ∷ column row 6 ∷ column row 7 ∷ column row 8 ∷ column row 9 ∷ column row 10 ∷ []

abbrev pub setting_rows : Trees → List Row
setting_rows db = map ten_columns (db setting_tree)

abbrev pub act_rows : Trees → List Row
act_rows db = map three_columns (db act_tree)

abbrev pub entry_rows : Trees → List Row
entry_rows db = map seven_columns (db entry_tree)

abbrev pub account_rows : Trees → List Row
account_rows db = map three_columns (db account_tree)

-- there are no acts, no entries and no accounts
abbrev pub AreEmpty : Trees → Type 0
AreEmpty db = (db act_tree ≡ []) × (db entry_tree ≡ []) × (db account_tree ≡ [])

-- the connection went back to the last commit, which is unchanged, and may be used
pub record IsUndone (old new : State) : Type 0 where
  pub is_open : IsTrue new.is_open
  pub autocommit : new.in_transaction ≡ false
  pub now_is : new.now ≡ old.committed
  pub committed_is : new.committed ≡ old.committed
