-- What the texts of the statements mean.
use Rattle.std.proofs.Common.{◌≡◌, ℕ, pos, negsuc, List, [], ◌∷◌, codes, None, Ok, false, refl}
use Rattle.sqlite.specs.declared.types.Value.TheVariants.{Null, Int}
use Rattle.sqlite.specs.Term.{Term, lit, col, op2}
use Rattle.sqlite.specs.Query.{Query, inner, end}
use Rattle.sqlite.specs.Schema.{Schema}
use Rattle.sqlite.specs.Table.{Table}
use Rattle.sqlite.specs.Source.TheVariants.{Values}
use Rattle.sqlite.specs.Command.TheVariants.{Insert, Update, Select, CreateTable}
use Rattle.sqlite_sql.specs.declared.ops.BinaryOp.TheVariants.{Compare}
use Rattle.sqlite_sql.specs.declared.ops.CompareOp.TheVariants.{Eq}
use Rattle.sqlite.specs.Compile.{table_defined_by}
use Rattle.sqlite.specs.Listing.{understood, reads_listing}
use Rattle.sqlite.specs.Collation.TheVariants.{Binary}
use Rattle.sqlite_tied.specs.Compute.{everything}
use Rattle.sqlite.proofs.Callers.{IsPlain, command_of, statement_of}
use Rattle.dcc_sqlite_store.specs.Queries.{all_settings, settings_query, all_acts, acts_query, all_entries, entries_query, all_accounts, accounts_query, all_rowids, rowids_query}
use Rattle.dcc_sqlite_store.specs.Tables.{setting_text, act_text, entry_text, account_text, setting_table, act_table, entry_table, account_table, no_schema, one_table, two_tables, three_tables, layout}

-- ---- the tables

abbrev pub Makes : Schema → List ℕ → Table → Type 0
Makes schema text table = (command_of (understood schema text) ≡ CreateTable) × (statement_of text (understood schema text) ≡ text) × (table_defined_by text ≡ Ok table)

pub setting_is : Makes no_schema setting_text setting_table
unfolding understood everything
setting_is = (refl, refl, refl)

pub setting_plain : IsPlain (understood no_schema setting_text)
unfolding understood everything
setting_plain = (refl, refl)

pub act_is : Makes one_table act_text act_table
unfolding understood everything
act_is = (refl, refl, refl)

pub act_plain : IsPlain (understood one_table act_text)
unfolding understood everything
act_plain = (refl, refl)

pub entry_is : Makes two_tables entry_text entry_table
unfolding understood everything
entry_is = (refl, refl, refl)

pub entry_plain : IsPlain (understood two_tables entry_text)
unfolding understood everything
entry_plain = (refl, refl)

pub account_is : Makes three_tables account_text account_table
unfolding understood everything
account_is = (refl, refl, refl)

pub account_plain : IsPlain (understood three_tables account_text)
unfolding understood everything
account_plain = (refl, refl)

-- ---- what is written

abbrev pub new_setting : List ℕ
new_setting = codes "INSERT INTO setting VALUES (1, 2, ?1, ?2, ?3, ?4, ?5, ?6, ?7, ?8)"

abbrev pub setting_terms : List Term
setting_terms = lit (Int (pos 1)) ∷ lit Null ∷ lit (Int (pos 2)) ∷ col 0 0 ∷ col 0 1 ∷ col 0 2 ∷ col 0 3 ∷ col 0 4 ∷ col 0 5 ∷ col 0 6 ∷ col 0 7 ∷ []

pub new_setting_is : command_of (understood layout new_setting) ≡ Insert 0 (Values setting_terms 11)
unfolding understood everything
new_setting_is = refl

pub new_setting_plain : IsPlain (understood layout new_setting)
unfolding understood everything
new_setting_plain = (refl, refl)

abbrev pub new_act : List ℕ
new_act = codes "INSERT INTO act VALUES (?1, ?2, ?3)"

abbrev pub act_terms : List Term
act_terms = lit Null ∷ col 0 0 ∷ col 0 1 ∷ col 0 2 ∷ []

pub new_act_is : command_of (understood layout new_act) ≡ Insert 1 (Values act_terms 4)
unfolding understood everything
new_act_is = refl

pub new_act_plain : IsPlain (understood layout new_act)
unfolding understood everything
new_act_plain = (refl, refl)

abbrev pub new_entry : List ℕ
new_entry = codes "INSERT INTO entry VALUES (?1, ?2, ?3, ?4, ?5, ?6, ?7)"

abbrev pub entry_terms : List Term
entry_terms = lit Null ∷ col 0 0 ∷ col 0 1 ∷ col 0 2 ∷ col 0 3 ∷ col 0 4 ∷ col 0 5 ∷ col 0 6 ∷ []

pub new_entry_is : command_of (understood layout new_entry) ≡ Insert 2 (Values entry_terms 8)
unfolding understood everything
new_entry_is = refl

pub new_entry_plain : IsPlain (understood layout new_entry)
unfolding understood everything
new_entry_plain = (refl, refl)

abbrev pub new_account : List ℕ
new_account = codes "INSERT INTO account VALUES (?1, ?2, ?3)"

pub new_account_is : command_of (understood layout new_account) ≡ Insert 3 (Values act_terms 4)
unfolding understood everything
new_account_is = refl

pub new_account_plain : IsPlain (understood layout new_account)
unfolding understood everything
new_account_plain = (refl, refl)

-- ---- what is set

abbrev pub set_account : List ℕ
set_account = codes "UPDATE account SET acts = ?2, funds = ?3 WHERE sub = ?1"

abbrev pub of_sub : Query
of_sub = record {
  from = inner 5 end;
  filter = op2 (Compare Eq Binary) (col 1 1) (col 0 0) ∷ [];
  group = None;
  project = col 1 0 ∷ col 1 0 ∷ col 1 1 ∷ col 0 1 ∷ col 0 2 ∷ [];
  distinct = false;
  collations = [];
  order = [];
  limit = lit (Int (negsuc 0));
  offset = lit (Int (pos 0));
}

pub set_account_is : command_of (understood layout set_account) ≡ Update 3 (record { lets = []; body = of_sub })
unfolding understood everything
set_account_is = refl

pub set_account_plain : IsPlain (understood layout set_account)
unfolding understood everything
set_account_plain = (refl, refl)

-- ---- what is read

abbrev pub Reads : List ℕ → Query → List (List ℕ) → Type 0
Reads text query names = command_of (understood layout text) ≡ Select (record { lets = []; body = query }) names

pub all_settings_is : Reads all_settings settings_query (codes "id" ∷ codes "layout" ∷ codes "shard" ∷ codes "shards" ∷ codes "host" ∷ codes "realm" ∷ codes "validity" ∷ codes "hold" ∷ codes "currency" ∷ codes "exponent" ∷ [])
unfolding understood everything
all_settings_is = refl

pub all_settings_plain : IsPlain (understood layout all_settings)
unfolding understood everything
all_settings_plain = (refl, refl)

pub all_settings_unlisted : reads_listing layout all_settings ≡ false
unfolding understood everything
all_settings_unlisted = refl

pub all_acts_is : Reads all_acts acts_query (codes "sub" ∷ codes "place" ∷ codes "body" ∷ [])
unfolding understood everything
all_acts_is = refl

pub all_acts_plain : IsPlain (understood layout all_acts)
unfolding understood everything
all_acts_plain = (refl, refl)

pub all_acts_unlisted : reads_listing layout all_acts ≡ false
unfolding understood everything
all_acts_unlisted = refl

pub all_entries_is : Reads all_entries entries_query (codes "sub" ∷ codes "place" ∷ codes "line" ∷ codes "kind" ∷ codes "grp" ∷ codes "units" ∷ codes "amount" ∷ [])
unfolding understood everything
all_entries_is = refl

pub all_entries_plain : IsPlain (understood layout all_entries)
unfolding understood everything
all_entries_plain = (refl, refl)

pub all_entries_unlisted : reads_listing layout all_entries ≡ false
unfolding understood everything
all_entries_unlisted = refl

pub all_accounts_is : Reads all_accounts accounts_query (codes "sub" ∷ codes "acts" ∷ codes "funds" ∷ [])
unfolding understood everything
all_accounts_is = refl

pub all_accounts_plain : IsPlain (understood layout all_accounts)
unfolding understood everything
all_accounts_plain = (refl, refl)

pub all_accounts_unlisted : reads_listing layout all_accounts ≡ false
unfolding understood everything
all_accounts_unlisted = refl

pub all_rowids_is : Reads all_rowids rowids_query (codes "rowid" ∷ [])
unfolding understood everything
all_rowids_is = refl

pub all_rowids_plain : IsPlain (understood layout all_rowids)
unfolding understood everything
all_rowids_plain = (refl, refl)

pub all_rowids_unlisted : reads_listing layout all_rowids ≡ false
unfolding understood everything
all_rowids_unlisted = refl
