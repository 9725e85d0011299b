-- The parts of the layout.
use Rattle.std.specs.Prelude.{ℕ, ◌+◌, true, codes, Option, Some, None, List, [], ◌∷◌}
use Rattle.sqlite.specs.Table.{Table}
use Rattle.sqlite_schema.specs.declared.schema.Index.{Index}
use Rattle.sqlite_schema.specs.declared.schema.Column.{Column}
use Rattle.sqlite_value.specs.declared.keys.Order.{Order}
use Rattle.sqlite_value.specs.Keys.{plain}
use Rattle.dcc_sqlite_store.specs.Tables.{column_of}
use Rattle.dcc_sqlite_store.specs.declared.layout.ColumnForm.{ColumnForm}

-- a table, in this tree
abbrev pub at_tree : ℕ → Table → Table
at_tree tree table = record table { tree = tree }

-- the column of a form
abbrev pub formed : ColumnForm → Column
formed form = column_of form.0.now form.1 form.2

-- the keys that have an index: none if the key is the rowid
abbrev pub keys_of : Option ℕ → List ℕ → List (List ℕ)
keys_of None key = key ∷ []
keys_of (Some rowid) key = []

-- the orders of these indexes
abbrev pub orders_of : Option ℕ → List Order
orders_of None = plain ∷ []
orders_of (Some rowid) = []

-- the index of the key of the table in this tree
abbrev pub key_index : List ℕ → ℕ → List ℕ → Index
key_index name table key = record { name = name; tree = table + 1; table = table; columns = key; order = plain; is_unique = true }

-- the indexes of the keys that aren't rowids
abbrev pub key_indexes : List Index
key_indexes = key_index (codes "sqlite_autoindex_act_1") 1 (1 ∷ 2 ∷ [])
    ∷ key_index (codes "sqlite_autoindex_entry_1") 3 (1 ∷ 2 ∷ 3 ∷ [])
    ∷ key_index (codes "sqlite_autoindex_account_1") 5 (1 ∷ []) ∷ []
