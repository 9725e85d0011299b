-- What INSERT makes of the tables.
use Rattle.std.proofs.Common.{◌≡◌, ◌⊎◌, inl, inr, ℕ, ℤ, pos, List, [], ◌∷◌, ◌++◌, map, length, ◌==◌, Bool, true, false, not, ◌||◌, cond, None, Some, Option, Ok, Err, Result, refl, sym, ap, subst, ◌∙◌}
use Rattle.std.specs.Ordering.{is_eq, match_ordering}
use Rattle.std.specs.declared.cmp.Ordering.{Ordering}
use Rattle.std.specs.declared.cmp.Ordering.TheVariants.{Less, Equal, Greater}
use Rattle.std.specs.List.Sorted.{IsPermutation}
use Rattle.std.proofs.lemmas.Bool.{not-true, and_parts}
use Rattle.std.proofs.lemmas.List.{map-append}
use Rattle.std.proofs.lemmas.List.Sorted.{IsPermutation-refl, IsPermutation-cons, IsPermutation-to_front, IsPermutation-map}
use Rattle.sqlite.specs.declared.types.Value.{Value}
use Rattle.sqlite.specs.declared.types.Value.TheVariants.{Null, Int}
use Rattle.sqlite.specs.Order.{Row, value_cmp}
use Rattle.sqlite.specs.Tree.{Trees, put_row, rowid}
use Rattle.sqlite.specs.Ops.{unary}
use Rattle.sqlite.specs.Kind.TheVariants.{Integer}
use Rattle.sqlite.specs.Source.TheVariants.{Values}
use Rattle.sqlite.specs.Command.TheVariants.{Insert}
use Rattle.sqlite.specs.Edit.{Edit, edit_of, next_rowid, put_all, is_taken, are_fresh, taken_by, Applies}
use Rattle.sqlite.specs.Cast.{cast}
use Rattle.sqlite.specs.Rowids.TheVariants.{Chosen}
use Rattle.sqlite.specs.Does.{Tally, Does}
use Rattle.sqlite.specs.Rows.{Written}
use Rattle.sqlite.specs.Table.{Table}
use Rattle.sqlite_schema.specs.declared.schema.Keys.TheVariants.{Enforced}
use Rattle.sqlite_rules.specs.Action.{works, deed_for, Writes}
use Rattle.sqlite.specs.Listing.{understood}
use Rattle.sqlite.specs.Effect.{Database}
use Rattle.sqlite.specs.State.{State, mode_of, ExecutesInside}
use Rattle.sqlite.proofs.Callers.{statement_of, runs_as, one_step}
use Rattle.dcc_sqlite_store.specs.Tables.{act_table, entry_table, to_act, layout}
use Rattle.dcc_sqlite_rows.specs.Rows.{act_row, entry_cells, group_value}
use Rattle.dcc_sqlite_store.specs.inner.Trees.{act_tree, entry_tree, three_columns, seven_columns, AddsActs, AddsEntries, HasRun}
use Rattle.dcc_sqlite_store.proofs.Texts.{new_act, act_terms, new_act_is, new_act_plain, new_entry, entry_terms, new_entry_is, new_entry_plain}

by_order : (new r : Row) (rs : List Row) (o : Ordering) → (is_taken rs new ≡ false → IsPermutation (rs ++ new ∷ []) (put_row new rs)) → (is_eq o || is_taken rs new) ≡ false
    → IsPermutation ((r ∷ rs) ++ new ∷ []) (match_ordering o (r ∷ put_row new rs) (new ∷ rs) (new ∷ r ∷ rs))
by_order new r rs Less later free = IsPermutation-cons r (rs ++ new ∷ []) (put_row new rs) (later free)
by_order new r rs Equal later free = absurd cc
by_order new r rs Greater later free = IsPermutation-to_front (r ∷ rs) new

-- a row whose rowid is not taken is put in some place
pub put_fresh : (new : Row) (rows : List Row) → is_taken rows new ≡ false → IsPermutation (rows ++ new ∷ []) (put_row new rows)
put_fresh new [] free = IsPermutation-refl (new ∷ [])
put_fresh new (r ∷ rs) free = by_order new r rs (value_cmp (rowid r) (rowid new)) (put_fresh new rs) free

either : (b : Bool) (x : Value) → cond b x x ≡ x
either true x = refl
either false x = refl

pub cast_int : (n : ℤ) → cast Integer (Int n) ≡ Int n
unfolding unary
cast_int n = either _ (Int n)

pub cast_null : cast Integer Null ≡ Null
unfolding unary
cast_null = either _ Null

pub cast_group : (g : Option ℕ) → cast Integer (group_value g) ≡ group_value g
cast_group None = cast_null
cast_group (Some n) = cast_int (pos n)

-- a part that gave a value did not stop on the way
pub went : {B E R : Type 0} {b : B} {Stops : E → Type 0} → ((stop : E) × Stops stop × (Ok b ≡ Err stop)) ⊎ R → R
went (inl stopped) = absurd (let e = stopped.2 in cc)
went (inr on) = on

pub same_value : {B E : Type 0} {a b : B} → ◌≡◌ {A = Result B E} (Ok a) (Ok b) → a ≡ b
same_value e = cc

-- one row is put into the tree of a table, and has a rowid of its own
pub put_one : (db next : Trees) (table : Table) (given : List Row) (new : Row) → (edit_of db table [] Chosen 0 given).news ≡ new ∷ [] → Applies layout Enforced db (edit_of db table [] Chosen 0 given) next
    → (is_taken (db table.tree) new ≡ false) × IsPermutation (db table.tree ++ new ∷ []) (next table.tree)
put_one db next table given new news applied =
    let fresh : are_fresh (db table.tree) (new ∷ []) ≡ true = subst (λ all. are_fresh (db table.tree) all ≡ true) news applied.fresh in
    let free : is_taken (db table.tree) new ≡ false = not-true (is_taken (db table.tree) new) (and_parts (not (is_taken (db table.tree) new)) true fresh).0 in
    let put : next table.tree ≡ put_row new (db table.tree) = applied.rows ∙ ap (λ all. put_all (db table.tree) all) news in
    (free, subst (IsPermutation (db table.tree ++ new ∷ [])) (sym put) (put_fresh new (db table.tree) free))

-- the reference of entries to acts sets nothing off
no_deed : (b : Bool) → deed_for Enforced b to_act ≡ None
no_deed true = refl
no_deed false = refl

no_works : (tree : ℕ) (olds news : List Row) → works layout Enforced 0 tree olds news ≡ []
no_works tree olds news = rw (no_deed (length news == 0)) refl

-- so a write is its one step
pub one_write : (db next : Trees) (edit : Edit) → Writes layout Enforced db edit (Ok next) → Applies layout Enforced db edit next
one_write db next edit = one_step layout Enforced db next edit (no_works edit.table.tree (taken_by db edit) edit.news)

-- ---- an act

abbrev pub act_here : Table
act_here = record act_table { tree = act_tree }

act_news : (db : Trees) (sub body : List ℕ) (place : ℕ) (given : List Row) → given ≡ (Null ∷ act_row sub place body) ∷ []
    → (edit_of db act_here [] Chosen 0 given).news ≡ (Int (next_rowid (db act_tree)) ∷ act_row sub place body) ∷ []
act_news db sub body place given is = ap (λ (all : List Row). (edit_of db act_here [] Chosen 0 all).news) is ∙ rw (cast_null, cast_int (pos place)) refl

act_added : (db next : Trees) (sub body : List ℕ) (place : ℕ) (given : List Row) → given ≡ (Null ∷ act_row sub place body) ∷ [] → Applies layout Enforced db (edit_of db act_here [] Chosen 0 given) next
    → AddsActs (act_row sub place body ∷ []) db next
act_added db next sub body place given is applied =
    let new = Int (next_rowid (db act_tree)) ∷ act_row sub place body in
    let whole = put_one db next act_here given new (act_news db sub body place given is) applied in
    record {
      setting = applied.tables.0 (λ e. absurd cc);
      acts = subst (λ all. IsPermutation all (map three_columns (next act_tree))) (map-append three_columns (db act_tree) (new ∷ [])) (IsPermutation-map three_columns (db act_tree ++ new ∷ []) (next act_tree) whole.1);
      entries = applied.tables.1.1.0 (λ e. absurd cc);
      accounts = applied.tables.1.1.1.0 (λ e. absurd cc);
    }

pub adds_act : (old new : State) (sub body : List ℕ) (place : ℕ) (count : ℕ) → old.now.schema ≡ layout → ExecutesInside 0 new_act (act_row sub place body) old new (Ok count)
    → HasRun (AddsActs (act_row sub place body ∷ [])) old new
adds_act old new sub body place count has inside =
    let params = act_row sub place body in
    let db = old.now.trees in
    let command = Insert 1 (Values act_terms 4) in
    let w = runs_as new_act params old new layout has command new_act_is new_act_plain count inside.0 in
    let text = statement_of new_act (understood layout new_act) in
    let done = went (subst (λ s. Does old.step_limit (mode_of old) params (record old.now { schema = s }) text None command (Ok (w.tally, new.now))) has w.changed) in
    let now = ap (λ (p : Tally × Database). p.1) (same_value (went (went done.2).2).2) in
    let given = went done.1 in
    let written = went (went given.2).2 in
    let counted = went written.2 in
    let trees : done.0.trees ≡ written.0 = ap (λ (it : Written). it.trees) (same_value counted.2) ∙ same_value counted.1 in
    let applied = one_write db written.0 (edit_of db act_here [] Chosen 0 given.0) written.1 in
    record {
      inside = inside.1.mode;
      committed = inside.1.committed_is;
      schema = ap (λ (d : Database). d.schema) now;
      changes = subst (AddsActs (act_row sub place body ∷ []) db) (sym (ap (λ (d : Database). d.trees) now ∙ trees)) (act_added db written.0 sub body place given.0 given.1.1 applied);
    }

-- ---- an entry

abbrev pub entry_here : Table
entry_here = record entry_table { tree = entry_tree }

entry_news : (db : Trees) (sub : List ℕ) (place line kind : ℕ) (group : Option ℕ) (units amount : ℤ) (given : List Row) → given ≡ (Null ∷ entry_cells sub place line kind group units amount) ∷ []
    → (edit_of db entry_here [] Chosen 0 given).news ≡ (Int (next_rowid (db entry_tree)) ∷ entry_cells sub place line kind group units amount) ∷ []
entry_news db sub place line kind group units amount given is =
    ap (λ (all : List Row). (edit_of db entry_here [] Chosen 0 all).news) is ∙ rw (cast_null, cast_int (pos place), cast_int (pos line), cast_int (pos kind), cast_group group, cast_int units, cast_int amount) refl

entry_added : (db next : Trees) (sub : List ℕ) (place line kind : ℕ) (group : Option ℕ) (units amount : ℤ) (given : List Row) → given ≡ (Null ∷ entry_cells sub place line kind group units amount) ∷ [] → Applies layout Enforced db (edit_of db entry_here [] Chosen 0 given) next
    → AddsEntries (entry_cells sub place line kind group units amount ∷ []) db next
entry_added db next sub place line kind group units amount given is applied =
    let new = Int (next_rowid (db entry_tree)) ∷ entry_cells sub place line kind group units amount in
    let whole = put_one db next entry_here given new (entry_news db sub place line kind group units amount given is) applied in
    record {
      setting = applied.tables.0 (λ e. absurd cc);
      acts = applied.tables.1.0 (λ e. absurd cc);
      entries = subst (λ all. IsPermutation all (map seven_columns (next entry_tree))) (map-append seven_columns (db entry_tree) (new ∷ [])) (IsPermutation-map seven_columns (db entry_tree ++ new ∷ []) (next entry_tree) whole.1);
      accounts = applied.tables.1.1.1.0 (λ e. absurd cc);
    }

pub adds_entry : (old new : State) (sub : List ℕ) (place line kind : ℕ) (group : Option ℕ) (units amount : ℤ) (count : ℕ) → old.now.schema ≡ layout → ExecutesInside 0 new_entry (entry_cells sub place line kind group units amount) old new (Ok count)
    → HasRun (AddsEntries (entry_cells sub place line kind group units amount ∷ [])) old new
adds_entry old new sub place line kind group units amount count has inside =
    let params = entry_cells sub place line kind group units amount in
    let db = old.now.trees in
    let command = Insert 2 (Values entry_terms 8) in
    let w = runs_as new_entry params old new layout has command new_entry_is new_entry_plain count inside.0 in
    let text = statement_of new_entry (understood layout new_entry) in
    let done = went (subst (λ s. Does old.step_limit (mode_of old) params (record old.now { schema = s }) text None command (Ok (w.tally, new.now))) has w.changed) in
    let now = ap (λ (p : Tally × Database). p.1) (same_value (went (went done.2).2).2) in
    let given = went done.1 in
    let written = went (went given.2).2 in
    let counted = went written.2 in
    let trees : done.0.trees ≡ written.0 = ap (λ (it : Written). it.trees) (same_value counted.2) ∙ same_value counted.1 in
    let applied = one_write db written.0 (edit_of db entry_here [] Chosen 0 given.0) written.1 in
    record {
      inside = inside.1.mode;
      committed = inside.1.committed_is;
      schema = ap (λ (d : Database). d.schema) now;
      changes = subst (AddsEntries (entry_cells sub place line kind group units amount ∷ []) db) (sym (ap (λ (d : Database). d.trees) now ∙ trees)) (entry_added db written.0 sub place line kind group units amount given.0 given.1.1 applied);
    }
