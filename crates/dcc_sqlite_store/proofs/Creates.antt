-- What CREATE makes of a schema, and the first row.
use Rattle.std.proofs.Common.{◌≡◌, ℕ, ℤ, pos, List, [], ◌∷◌, map, false, None, Ok, refl, sym, ap, subst, ◌∙◌}
use Rattle.sqlite.specs.Order.{Row}
use Rattle.sqlite.specs.Tree.{Trees}
use Rattle.sqlite.specs.Schema.{Schema}
use Rattle.sqlite.specs.Table.{Table}
use Rattle.sqlite.specs.Source.TheVariants.{Values}
use Rattle.sqlite.specs.Command.TheVariants.{Insert, CreateTable}
use Rattle.sqlite.specs.declared.types.Value.TheVariants.{Null, Int, Text}
use Rattle.sqlite.specs.Edit.{edit_of, put_all, Applies}
use Rattle.sqlite.specs.Rowids.TheVariants.{Chosen}
use Rattle.sqlite.specs.Change.{created, next_tree, KeepsRows}
use Rattle.sqlite.specs.Does.{Tally, Does, lacks_sequence}
use Rattle.sqlite.specs.Rows.{Written}
use Rattle.sqlite.specs.Listing.{understood}
use Rattle.sqlite.specs.Effect.{Database}
use Rattle.sqlite.specs.State.{State, mode_of, Writes, ExecutesInside}
use Rattle.sqlite.proofs.Callers.{IsPlain, statement_of, runs_as}
use Rattle.sqlite_schema.specs.declared.schema.Keys.TheVariants.{Enforced}
use Rattle.dcc_sqlite_store.specs.Tables.{setting_table, no_schema, one_table, two_tables, three_tables, layout, setting_text, act_text, entry_text, account_text, act_table, entry_table, account_table}
use Rattle.dcc_sqlite_store.specs.inner.Trees.{setting_tree}
use Rattle.dcc_sqlite_store.specs.Trees.{IsStore, ten_columns, setting_rows}
use Rattle.dcc_sqlite_store.specs.inner.Making.{HasMade, NoSetting, NoActs, NoEntries, NoRows, AreEmpty}
use Rattle.dcc_sqlite_store.proofs.Texts.{Makes, setting_is, setting_plain, act_is, act_plain, entry_is, entry_plain, account_is, account_plain, new_setting, setting_terms, new_setting_is, new_setting_plain}
use Rattle.dcc_sqlite_store.proofs.Stores.{store_of}
use Rattle.dcc_sqlite_store.proofs.Inserts.{cast_int, cast_null, went, same_value, one_write}

module _ (before : Schema) (text : List ℕ) (table : Table) (is : Makes before text table) (plain : IsPlain (understood before text)) (counted : lacks_sequence (created before table) ≡ false) where
  makes : (old new : State) (count : ℕ) → old.now.schema ≡ before → ExecutesInside 0 text [] old new (Ok count)
      → (new.now.schema ≡ created before table) × (new.now.trees (next_tree before) ≡ []) × KeepsRows before.tables old.now.trees new.now.trees
  makes old new count has inside =
      let w = subst (λ t. Writes old new None CreateTable t [] count) is.1 (runs_as text [] old new before has CreateTable is.0 plain count inside.0) in
      let all = went w.changed in
      let first = went all.1 in
      let made = first.1 in
      let both : Ok made.table ≡ Ok table = sym made.defined ∙ is.2 in
      let same : made.table ≡ table = cc in
      let schema : first.0.schema ≡ created before table = made.is ∙ ap (λ s. created s made.table) has ∙ ap (created before) same in
      let plainly : lacks_sequence first.0.schema ≡ false = ap lacks_sequence schema ∙ counted in
      let now : new.now ≡ first.0 = ap (λ (p : Tally × Database). p.1) (same_value all.2) ∙ same_value (rw plainly at first.2) in (
        ap (λ (d : Database). d.schema) now ∙ schema,
        ap (λ (d : Database). d.trees (next_tree before)) now ∙ subst (λ s. first.0.trees (next_tree s) ≡ []) has made.empty,
        subst (λ (d : Database). KeepsRows before.tables old.now.trees d.trees) (sym now) (subst (λ (s : Schema). KeepsRows s.tables old.now.trees first.0.trees) has made.others),
      )

pub made_setting : (old new : State) (count : ℕ) → old.now.schema ≡ no_schema → ExecutesInside 0 setting_text [] old new (Ok count) → HasMade one_table NoSetting old new
made_setting old new count has inside =
    let m = makes no_schema setting_text setting_table setting_is setting_plain refl old new count has inside in
    record { inside = inside.1.mode; committed = inside.1.committed_is; schema = m.0; says = m.1 }

pub made_act : (old new : State) (count : ℕ) → old.now.schema ≡ one_table → NoSetting old.now.trees → ExecutesInside 0 act_text [] old new (Ok count) → HasMade two_tables NoActs old new
made_act old new count has none inside =
    let m = makes one_table act_text act_table act_is act_plain refl old new count has inside in
    record { inside = inside.1.mode; committed = inside.1.committed_is; schema = m.0; says = (m.2.0 ∙ none, m.1) }

pub made_entry : (old new : State) (count : ℕ) → old.now.schema ≡ two_tables → NoActs old.now.trees → ExecutesInside 0 entry_text [] old new (Ok count) → HasMade three_tables NoEntries old new
made_entry old new count has none inside =
    let m = makes two_tables entry_text entry_table entry_is entry_plain refl old new count has inside in
    record { inside = inside.1.mode; committed = inside.1.committed_is; schema = m.0; says = (m.2.0 ∙ none.0, m.2.1.0 ∙ none.1, m.1) }

pub made_account : (old new : State) (count : ℕ) → old.now.schema ≡ three_tables → NoEntries old.now.trees → ExecutesInside 0 account_text [] old new (Ok count) → HasMade layout NoRows old new
made_account old new count has none inside =
    let m = makes three_tables account_text account_table account_is account_plain refl old new count has inside in
    record { inside = inside.1.mode; committed = inside.1.committed_is; schema = m.0; says = (m.2.0 ∙ none.0, (m.2.1.0 ∙ none.1, m.2.1.1.0 ∙ none.2, m.1)) }

-- ---- the row of the setting

abbrev setting_here : Table
setting_here = record setting_table { tree = setting_tree }

module _ (shard shards : ℤ) (host realm : List ℕ) (validity hold currency exponent : ℤ) where
  abbrev setting_params : Row
  setting_params = Int shard ∷ Int shards ∷ Text host ∷ Text realm ∷ Int validity ∷ Int hold ∷ Int currency ∷ Int exponent ∷ []

  abbrev stored_setting : Row
  stored_setting = Int (pos 1) ∷ Null ∷ Int (pos 2) ∷ setting_params

  -- the tables of a store, with no acts, entries and accounts, and this row of the setting
  abbrev pub HasSetting : Trees → Type 0
  HasSetting db = AreEmpty db × (setting_rows db ≡ (Int (pos 1) ∷ Int (pos 2) ∷ setting_params) ∷ []) × IsStore db

  setting_news : (db : Trees) (given : List Row) → given ≡ stored_setting ∷ [] → (edit_of db setting_here [] Chosen 0 given).news ≡ stored_setting ∷ []
  setting_news db given is =
      ap (λ (all : List Row). (edit_of db setting_here [] Chosen 0 all).news) is
      ∙ rw (cast_null, cast_int (pos 1), cast_int (pos 2), cast_int shard, cast_int shards, cast_int validity, cast_int hold, cast_int currency, cast_int exponent) refl

  setting_put : (db next : Trees) (given : List Row) → given ≡ stored_setting ∷ [] → Applies layout Enforced db (edit_of db setting_here [] Chosen 0 given) next → NoRows db → IsStore next → HasSetting next
  setting_put db next given is applied none store =
      let put : next setting_tree ≡ stored_setting ∷ [] =
      applied.rows ∙ ap (λ all. put_all (db setting_tree) all) (setting_news db given is) ∙ ap (λ (rows : List Row). put_all rows (stored_setting ∷ [])) none.0 in
      ((applied.tables.1.0 (λ e. absurd cc) ∙ none.1.0, applied.tables.1.1.0 (λ e. absurd cc) ∙ none.1.1, applied.tables.1.1.1.0 (λ e. absurd cc) ∙ none.1.2), ap (map ten_columns) put, store)

  pub adds_setting : (old new : State) (count : ℕ) → old.now.schema ≡ layout → NoRows old.now.trees → ExecutesInside 0 new_setting setting_params old new (Ok count) → HasMade layout HasSetting old new
  adds_setting old new count has none inside =
      let db = old.now.trees in
      let command = Insert 0 (Values setting_terms 11) in
      let w = runs_as new_setting setting_params old new layout has command new_setting_is new_setting_plain count inside.0 in
      let text = statement_of new_setting (understood layout new_setting) in
      let done = went (subst (λ s. Does old.step_limit (mode_of old) setting_params (record old.now { schema = s }) text None command (Ok (w.tally, new.now))) has w.changed) in
      let now = ap (λ (p : Tally × Database). p.1) (same_value (went (went done.2).2).2) in
      let given = went done.1 in
      let written = went (went given.2).2 in
      let counted = went written.2 in
      let trees : done.0.trees ≡ written.0 = ap (λ (it : Written). it.trees) (same_value counted.2) ∙ same_value counted.1 in
      let applied = one_write db written.0 (edit_of db setting_here [] Chosen 0 given.0) written.1 in
      let schema : new.now.schema ≡ layout = ap (λ (d : Database). d.schema) now in
      let all : new.now.trees ≡ written.0 = ap (λ (d : Database). d.trees) now ∙ trees in
      record {
        inside = inside.1.mode;
        committed = inside.1.committed_is;
        schema = schema;
        says = subst HasSetting (sym all) (setting_put db written.0 given.0 given.1.1 applied none (subst IsStore all (store_of new.now w.sound schema)));
      }
