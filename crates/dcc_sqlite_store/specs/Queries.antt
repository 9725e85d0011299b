-- The queries of the tables: each table is read by one statement, in the order of its key.
use Rattle.std.specs.Prelude.{ℕ, pos, negsuc, false, List, [], ◌∷◌, None, codes}
use Rattle.sqlite.specs.declared.types.Value.TheVariants.{Int}
use Rattle.sqlite.specs.Order.{Row}
use Rattle.sqlite.specs.Tree.{Trees}
use Rattle.sqlite.specs.Term.{Term, lit, col}
use Rattle.sqlite.specs.Query.{Query, inner, end, IsAnswer}
use Rattle.sqlite.specs.Program.{overlay}
use Rattle.sqlite.specs.Collation.TheVariants.{Binary}
use Rattle.sqlite_value.specs.declared.keys.Key.{Key}
use Rattle.sqlite_value.specs.Keys.{ascending}
use Rattle.dcc_sqlite_store.specs.Trees.{setting_tree, act_tree, entry_tree, account_tree}

-- the columns `shown` of all rows of a tree, in the order of the columns `order`
abbrev pub all_of : ℕ → List Term → List (Term × Key) → Query
all_of tree shown order =
    record {
      from = inner tree end;
      filter = [];
      group = None;
      project = shown;
      distinct = false;
      collations = [];
      order = order;
      limit = lit (Int (negsuc 0));
      offset = lit (Int (pos 0));
    }

abbrev pub all_settings : List ℕ
all_settings = codes "SELECT id, layout, shard, shards, host, realm, validity, hold, currency, exponent FROM setting ORDER BY id"

abbrev pub settings_query : Query
settings_query = all_of setting_tree
    (col 1 0 ∷ col 1 2 ∷ col 1 3 ∷ col 1 4 ∷ col 1 5 ∷ col 1 6 ∷ col 1 7 ∷ col 1 8 ∷ col 1 9 ∷ col 1 10 ∷ []) ((col 1 0, ascending Binary) ∷ [])

abbrev pub all_acts : List ℕ
all_acts = codes "SELECT sub, place, body FROM act ORDER BY sub, place"

abbrev pub acts_query : Query
acts_query = all_of act_tree (col 1 1 ∷ col 1 2 ∷ col 1 3 ∷ []) ((col 1 1, ascending Binary) ∷ (col 1 2, ascending Binary) ∷ [])

abbrev pub all_entries : List ℕ
all_entries = codes "SELECT sub, place, line, kind, grp, units, amount FROM entry ORDER BY sub, place, line"

abbrev pub entries_query : Query
entries_query = all_of entry_tree (col 1 1 ∷ col 1 2 ∷ col 1 3 ∷ col 1 4 ∷ col 1 5 ∷ col 1 6 ∷ col 1 7 ∷ [])
    ((col 1 1, ascending Binary) ∷ (col 1 2, ascending Binary) ∷ (col 1 3, ascending Binary) ∷ [])

abbrev pub all_accounts : List ℕ
all_accounts = codes "SELECT sub, acts, funds FROM account ORDER BY sub"

abbrev pub accounts_query : Query
accounts_query = all_of account_tree (col 1 1 ∷ col 1 2 ∷ col 1 3 ∷ []) ((col 1 1, ascending Binary) ∷ [])

abbrev pub all_rowids : List ℕ
all_rowids = codes "SELECT rowid FROM account ORDER BY rowid"

abbrev pub rowids_query : Query
rowids_query = all_of account_tree (col 1 0 ∷ []) ((col 1 0, ascending Binary) ∷ [])

-- the rows are the answer to a query
abbrev pub Shows : Query → Trees → List Row → Type 0
Shows query db rows = IsAnswer query (overlay db []) [] rows
