-- The tables while they are made.
use Rattle.std.specs.Prelude.{◌≡◌, IsTrue, []}
use Rattle.sqlite.specs.Schema.{Schema}
use Rattle.sqlite.specs.Tree.{Trees}
use Rattle.sqlite.specs.State.{State}
pub use Rattle.dcc_sqlite_store.specs.Trees.{AreEmpty}
pub use Rattle.dcc_sqlite_store.specs.Setting.{IsFirst}
use Rattle.dcc_sqlite_store.specs.Trees.{setting_tree, act_tree, entry_tree}

-- the tables that are there have no rows
abbrev pub NoSetting : Trees → Type 0
NoSetting db = db setting_tree ≡ []

abbrev pub NoActs : Trees → Type 0
NoActs db = (db setting_tree ≡ []) × (db act_tree ≡ [])

abbrev pub NoEntries : Trees → Type 0
NoEntries db = (db setting_tree ≡ []) × (db act_tree ≡ []) × (db entry_tree ≡ [])

abbrev pub NoRows : Trees → Type 0
NoRows db = (db setting_tree ≡ []) × AreEmpty db

-- A statement of a transaction was run: the transaction goes on with this schema, and this holds of the trees.
pub record HasMade (after : Schema) (Says : Trees → Type 0) (old new : State) : Type 0 where
  pub inside : IsTrue new.in_transaction
  pub committed : new.committed ≡ old.committed
  pub schema : new.now.schema ≡ after
  pub says : Says new.now.trees
