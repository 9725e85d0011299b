-- The tables while they are dropped: first the tables that refer to others.
use Rattle.std.specs.Prelude.{◌≡◌, IsTrue}
use Rattle.sqlite.specs.Schema.{Schema}
use Rattle.sqlite.specs.State.{State}
use Rattle.sqlite_catalog.specs.Change.{without_table}
use Rattle.dcc_sqlite_store.specs.Tables.{layout}
use Rattle.dcc_sqlite_store.specs.Trees.{act_tree, entry_tree, account_tree}

-- the schema shrinks by one table after another
abbrev pub without_entries : Schema
without_entries = without_table layout entry_tree

abbrev pub without_accounts : Schema
without_accounts = without_table without_entries account_tree

abbrev pub without_acts : Schema
without_acts = without_table without_accounts act_tree

-- A statement of a transaction was run: the transaction goes on with this schema.
pub record HasLeft (after : Schema) (old new : State) : Type 0 where
  pub inside : IsTrue new.in_transaction
  pub committed : new.committed ≡ old.committed
  pub schema : new.now.schema ≡ after
