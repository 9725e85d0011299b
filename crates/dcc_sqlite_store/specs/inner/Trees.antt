-- The effects of the statements of a transaction on the tables.
use Rattle.std.specs.Prelude.{◌≡◌, ◌≢◌, ◌⊎◌, AllPairs, ℕ, ℤ, false, IsTrue, List, [], ◌∷◌, ◌++◌}
use Rattle.std.specs.List.{Contains}
use Rattle.std.specs.List.Sorted.{IsPermutation}
use Rattle.sqlite.specs.declared.types.Value.TheVariants.{Int, Blob}
use Rattle.sqlite.specs.Order.{Row, column}
use Rattle.sqlite.specs.Tree.{Trees, rowid}
use Rattle.sqlite.specs.State.{State}
pub use Rattle.dcc_sqlite_store.specs.Trees.{setting_tree, act_tree, entry_tree, account_tree, three_columns, seven_columns, act_rows, entry_rows, account_rows, IsUndone}
use Rattle.dcc_sqlite_store.specs.Trees.{IsStore}
use Rattle.dcc_act.specs.declared.entry.Entry.{Entry}
use Rattle.dcc_sqlite_store.specs.Tables.{layout}
use Rattle.dcc_sqlite_rows.specs.Rows.{act_row, entry_rows_of, account_row}

-- the rows are added to the table of acts, and the other tables stay
pub record AddsActs (rows : List Row) (old new : Trees) : Type 0 where
  pub setting : new setting_tree ≡ old setting_tree
  pub acts : IsPermutation (act_rows old ++ rows) (act_rows new)
  pub entries : new entry_tree ≡ old entry_tree
  pub accounts : new account_tree ≡ old account_tree

-- the rows are added to the table of entries, and the other tables stay
pub record AddsEntries (rows : List Row) (old new : Trees) : Type 0 where
  pub setting : new setting_tree ≡ old setting_tree
  pub acts : new act_tree ≡ old act_tree
  pub entries : IsPermutation (entry_rows old ++ rows) (entry_rows new)
  pub accounts : new account_tree ≡ old account_tree

-- the rowids are integers, and no two rows of a tree have the same rowid
pub record IsKeyed (rows : List Row) : Type 0 where
  pub numbered : (row : Row) → Contains rows row → (id : ℤ) × (rowid row ≡ Int id)
  pub apart : (one other : Row) → Contains rows one → Contains rows other → rowid one ≡ rowid other → one ≡ other

-- no row stands in the list twice
abbrev pub AreApart : List Row → Type 0
AreApart rows = AllPairs (λ one other. one ≢ other) rows

-- The rows of one subscriber are removed from the table of accounts, and the other tables stay.
pub record DropsAccount (sub : List ℕ) (old new : Trees) : Type 0 where
  pub setting : new setting_tree ≡ old setting_tree
  pub acts : new act_tree ≡ old act_tree
  pub entries : new entry_tree ≡ old entry_tree
  pub keyed : IsKeyed (new account_tree)
  pub stays : (row : Row) → Contains (account_rows old) row → column row 0 ≢ Blob sub → Contains (account_rows new) row
  pub only : (row : Row) → Contains (account_rows new) row → Contains (account_rows old) row × (column row 0 ≢ Blob sub)
  pub once : AreApart (account_rows old) → AreApart (account_rows new)

-- One row of accounts is added, and the other tables stay.
pub record AddsAccount (row : Row) (old new : Trees) : Type 0 where
  pub setting : new setting_tree ≡ old setting_tree
  pub acts : new act_tree ≡ old act_tree
  pub entries : new entry_tree ≡ old entry_tree
  pub keyed : IsKeyed (old account_tree) → IsKeyed (new account_tree)
  pub accounts : IsPermutation (account_rows old ++ row ∷ []) (account_rows new)
  pub store : IsStore new

-- The row of one subscriber's account is set. The rows of other subscribers, and the other tables, stay.
pub record SetsAccount (sub : List ℕ) (set : Row) (old new : Trees) : Type 0 where
  pub setting : new setting_tree ≡ old setting_tree
  pub acts : new act_tree ≡ old act_tree
  pub entries : new entry_tree ≡ old entry_tree
  pub keyed : IsKeyed (new account_tree)
  pub there : Contains (account_rows new) set
  pub stays : (row : Row) → Contains (account_rows old) row → column row 0 ≢ Blob sub → Contains (account_rows new) row
  pub only : (row : Row) → Contains (account_rows new) row → (Contains (account_rows old) row × (column row 0 ≢ Blob sub)) ⊎ (set ≡ row)
  pub once : AreApart (account_rows old) → AreApart (account_rows new)
  pub store : IsStore new

-- An act is added with its entries, and its subscriber's account is set.
pub record Appends (sub : List ℕ) (place : ℕ) (body : List ℕ) (es : List Entry) (funds : ℤ) (old new : Trees) : Type 0 where
  pub setting : new setting_tree ≡ old setting_tree
  pub acts : IsPermutation (act_rows old ++ act_row sub place body ∷ []) (act_rows new)
  pub entries : IsPermutation (entry_rows old ++ entry_rows_of sub place 0 es) (entry_rows new)
  pub keyed : IsKeyed (new account_tree)
  pub there : Contains (account_rows new) (account_row sub place funds)
  pub stays : (row : Row) → Contains (account_rows old) row → column row 0 ≢ Blob sub → Contains (account_rows new) row
  pub only : (row : Row) → Contains (account_rows new) row → (Contains (account_rows old) row × (column row 0 ≢ Blob sub)) ⊎ (account_row sub place funds ≡ row)
  pub once : AreApart (account_rows old) → AreApart (account_rows new)
  pub store : IsStore new

-- A statement of a transaction was run: the transaction goes on over the same layout, and the trees changed so.
pub record HasRun (Changes : Trees → Trees → Type 0) (old new : State) : Type 0 where
  pub inside : IsTrue new.in_transaction
  pub committed : new.committed ≡ old.committed
  pub schema : new.now.schema ≡ layout
  pub changes : Changes old.now.trees new.now.trees

-- A transaction was committed, and none is open: the trees changed so.
pub record HasCommitted (Changes : Trees → Trees → Type 0) (old new : State) : Type 0 where
  pub is_open : IsTrue new.is_open
  pub autocommit : new.in_transaction ≡ false
  pub settled : new.now ≡ new.committed
  pub schema : new.now.schema ≡ layout
  pub changes : Changes old.now.trees new.now.trees
