-- What UPDATE and INSERT make of the table of accounts.
use Rattle.std.proofs.Common.{◌≡◌, ◌≢◌, ◌⊎◌, inl, inr, ℕ, ℤ, pos, suc, List, [], ◌∷◌, ◌++◌, length, map, flat_map, filter, drop, cond, Bool, true, false, not, ◌||◌, Option, None, Some, Ok, unwrap_or, refl, sym, ap, ap₂, subst, ◌∙◌, arith}
use Rattle.std.specs.Ordering.{is_eq, int_cmp, nat_cmp}
use Rattle.std.specs.declared.cmp.Ordering.{Ordering}
use Rattle.std.specs.declared.cmp.Ordering.TheVariants.{Less, Equal, Greater}
use Rattle.std.specs.List.{Contains, list_all}
use Rattle.std.specs.List.Sorted.{IsPermutation}
use Rattle.std.proofs.lemmas.Cmp.{int_ranked, tied_itself}
use Rattle.std.proofs.lemmas.Bool.{cases_Bool, and_parts, not-true}
use Rattle.std.proofs.lemmas.List.{map-append, length-map}
use Rattle.std.proofs.lemmas.List.Elements.{Contains-push, Contains-push_cases, Contains-append_left}
use Rattle.std.proofs.lemmas.List.Sorted.{IsPermutation-sym, IsPermutation-map, Contains-permutation}
use Rattle.std.proofs.lemmas.Map.Text.{is_eq-slice_cmp}
use Rattle.std.proofs.lemmas.Slice.Eq.{bytes_eq-Decides}
use Rattle.sqlite.specs.declared.types.Value.{Value}
use Rattle.sqlite.specs.declared.types.Value.TheVariants.{Null, Int, Real, Text, Blob}
use Rattle.sqlite.specs.Order.{Row, column, class, value_cmp}
use Rattle.sqlite.specs.Tree.{Trees, rowid, has_rowid, put_row, without_rowid, with_tree}
use Rattle.sqlite.specs.Table.{Table}
use Rattle.sqlite.specs.Collation.TheVariants.{Binary}
use Rattle.sqlite.specs.Term.{Term, col, op2, holds}
use Rattle.sqlite.specs.Query.{Output, output, matches, inner, end, IsAnswer}
use Rattle.sqlite.specs.Program.{overlay}
use Rattle.sqlite.specs.Source.TheVariants.{Values}
use Rattle.sqlite.specs.Command.TheVariants.{Insert, Update}
use Rattle.sqlite.specs.Edit.{edit_of, id_in, next_rowid, numbered, is_taken, are_fresh, without_all, put_all, Applies}
use Rattle.sqlite.specs.Rowids.TheVariants.{Chosen, Given}
use Rattle.sqlite.specs.Does.{Tally, Does}
use Rattle.sqlite.specs.Rows.{Written}
use Rattle.sqlite.specs.Listing.{understood}
use Rattle.sqlite.specs.Effect.{Database}
use Rattle.sqlite.specs.State.{State, mode_of, ExecutesInside}
use Rattle.sqlite.specs.Ops.{is_true, from_truth, binary}
use Rattle.sqlite.proofs.Callers.{statement_of, runs_as}
use Rattle.sqlite_schema.specs.declared.schema.Keys.TheVariants.{Enforced}
use Rattle.sqlite_sql.specs.declared.ops.BinaryOp.TheVariants.{Compare}
use Rattle.sqlite_sql.specs.declared.ops.CompareOp.TheVariants.{Eq}
use Rattle.sqlite_rules.specs.Cast.{cast_row}
use Rattle.sqlite_rules.specs.Lists.{Has}
use Rattle.sqlite_rules.specs.Calls.{ids_of}
use Rattle.sqlite_rules.specs.Probe.{AreFound}
use Rattle.sqlite_rules.proofs.ListLemmas.{has_filtered}
use Rattle.sqlite_rules.proofs.TableLemmas.{without_all_has}
use Rattle.sqlite_rules.proofs.ProbeLemmas.{has_mapped, mapped_has}
use Rattle.sqlite_value.proofs.OrderLemmas.{value_cmp_total, value_cmp-Int, value_cmp-Blob, value_cmp-apart}
use Rattle.dcc_sqlite_store.specs.Tables.{account_table, layout}
use Rattle.dcc_act.specs.declared.entry.Entry.{Entry}
use Rattle.dcc_sqlite_rows.specs.Rows.{act_row, entry_rows_of, account_row}
use Rattle.dcc_sqlite_store.specs.Trees.{IsStore}
use Rattle.dcc_sqlite_store.specs.inner.Trees.{setting_tree, act_tree, entry_tree, account_tree, three_columns, account_rows, AreApart, IsKeyed, AddsActs, AddsEntries, DropsAccount, AddsAccount, SetsAccount, Appends, HasRun}
use Rattle.dcc_sqlite_store.proofs.Apart.{apart_along, apart_push, apart_without}
use Rattle.dcc_sqlite_store.proofs.Lists.{to_has, from_has}
use Rattle.dcc_sqlite_store.proofs.Stores.{store_of}
use Rattle.dcc_sqlite_store.proofs.Texts.{act_terms, of_sub, set_account, set_account_is, set_account_plain, new_account, new_account_is, new_account_plain}
use Rattle.dcc_sqlite_store.proofs.Inserts.{cast_int, cast_null, went, same_value, put_fresh, put_one, one_write}

abbrev pub account_here : Table
account_here = record account_table { tree = account_tree }

-- ---- values

truth_of : (t : Bool) → is_true (from_truth (Some t)) ≡ t
truth_of true = refl
truth_of false = refl

-- the term of the WHERE clause
abbrev of_this : Term
of_this = op2 (Compare Eq Binary) (col 1 1) (col 0 0)

abbrev is_of : List ℕ → Row → Bool
is_of sub row = list_all (holds ((Blob sub ∷ []) ∷ row ∷ [])) (of_this ∷ [])

not_this : (v : Value) (sub : List ℕ) → class v ≢ 3 → is_true (from_truth (Some (is_eq (value_cmp v (Blob sub))))) ≡ true → is_eq (nat_cmp (class v) 3) ≡ true
not_this v sub apart h = ap is_eq (sym (value_cmp-apart v (Blob sub) apart)) ∙ sym (truth_of (is_eq (value_cmp v (Blob sub)))) ∙ h

is_this : (v : Value) (sub : List ℕ) → is_true (binary (Compare Eq Binary) v (Blob sub)) ≡ true → v ≡ Blob sub
unfolding binary value_cmp
is_this Null sub h = absurd cc
is_this (Int n) sub h = absurd (let e = not_this (Int n) sub (λ e. absurd cc) h in cc)
is_this (Real x) sub h = absurd (let e = not_this (Real x) sub (λ e. absurd cc) h in cc)
is_this (Text t) sub h = absurd (let e = not_this (Text t) sub (λ e. absurd cc) h in cc)
is_this (Blob b) sub h =
    let equal : is_eq (value_cmp (Blob b) (Blob sub)) ≡ true = sym (truth_of (is_eq (value_cmp (Blob b) (Blob sub)))) ∙ h in
    ap Blob ((bytes_eq-Decides b sub).0 (sym (is_eq-slice_cmp b sub) ∙ ap is_eq (sym (value_cmp-Blob b sub)) ∙ equal))

this_is : (sub : List ℕ) → is_true (binary (Compare Eq Binary) (Blob sub) (Blob sub)) ≡ true
unfolding binary value_cmp
this_is sub = truth_of (is_eq (value_cmp (Blob sub) (Blob sub))) ∙ ap is_eq (tied_itself value_cmp_total (Blob sub))

-- the rows of a subscriber are those that pass
pub of_only : (sub : List ℕ) (row : Row) → is_of sub row ≡ true → column row 1 ≡ Blob sub
of_only sub row h = is_this (column row 1) sub (and_parts (is_true (binary (Compare Eq Binary) (column row 1) (Blob sub))) true h).0

pub of_all : (sub : List ℕ) (row : Row) → column row 1 ≡ Blob sub → is_of sub row ≡ true
of_all sub row is = rw (is, this_is sub) refl

int_same : (a b : ℤ) → is_eq (int_cmp a b) ≡ true → a ≡ b
int_same a b h = by (int_cmp a b) refl h
  where
    by : (o : Ordering) → o ≡ int_cmp a b → is_eq o ≡ true → a ≡ b
    by Less e h = absurd cc
    by Equal e h = int_ranked a b Equal e
    by Greater e h = absurd cc

-- a row has the rowid just where that is its integer
pub same_rowid : (row : Row) (id k : ℤ) → rowid row ≡ Int k → has_rowid id row ≡ true → k ≡ id
same_rowid row id k is h = int_same k id (ap is_eq (sym (value_cmp-Int k id)) ∙ ap (λ (v : Value). is_eq (value_cmp v (Int id))) (sym is) ∙ h)

pub own_rowid : (row : Row) (k : ℤ) → rowid row ≡ Int k → has_rowid k row ≡ true
own_rowid row k is = ap (λ (v : Value). is_eq (value_cmp v (Int k))) is ∙ ap is_eq (tied_itself value_cmp_total (Int k))

-- ---- what is taken out

filtered_has : {X : Type 0} (p : X → Bool) (xs : List X) (x : X) → Has xs x → p x ≡ true → Has (filter p xs) x
filtered_has p [] x h good = absurd h
filtered_has p (y ∷ ys) x h good = elim (cases_Bool (p y)) [
  | inl kept ↦ rw kept (elim h [ inl same ↦ inl same | inr later ↦ inr (filtered_has p ys x later good) ])
  | inr gone ↦ rw gone (elim h [ inl same ↦ absurd (let e = sym gone ∙ ap p (sym same) ∙ good in cc) | inr later ↦ filtered_has p ys x later good ])
]

left_out : (ids : List ℤ) (rows : List Row) (row : Row) (id : ℤ) → Has (without_all rows ids) row → Has ids id → has_rowid id row ≡ false
left_out [] rows row id h there = absurd there
left_out (i ∷ ids) rows row id h (inl same) =
    let kept = has_filtered (λ r. not (has_rowid i r)) rows row (without_all_has ids (without_rowid i rows) row h) in rw same (not-true (has_rowid i row) kept.1)
left_out (i ∷ ids) rows row id h (inr later) = left_out ids (without_rowid i rows) row id h later

kept_in : (ids : List ℤ) (rows : List Row) (row : Row) → Has rows row → ((id : ℤ) → Has ids id → has_rowid id row ≡ false) → Has (without_all rows ids) row
kept_in [] rows row h none = h
kept_in (i ∷ ids) rows row h none =
    kept_in ids (without_rowid i rows) row (filtered_has (λ r. not (has_rowid i r)) rows row h (rw (none i (inl refl)) refl)) (λ id there. none id (inr there))

keyed_less : (rows less : List Row) → ((row : Row) → Has less row → Has rows row) → IsKeyed rows → IsKeyed less
keyed_less rows less among keyed = record {
  numbered = λ row h. keyed.numbered row (from_has rows row (among row (to_has less row h)));
  apart = λ one other h k. keyed.apart one other (from_has rows one (among one (to_has less one h))) (from_has rows other (among other (to_has less other k)));
}

module _ (sub : List ℕ) (rows found : List Row) (keyed : IsKeyed rows) (are : AreFound (of_this ∷ []) rows (Blob sub ∷ []) found) where
  abbrev less : List Row
  less = without_all rows (ids_of found)

  none_left : (full : Row) → Has less full → column full 1 ≢ Blob sub
  none_left full h is =
      let was = without_all_has (ids_of found) rows full h in
      let listed = are.complete full was (of_all sub full is) in
      let k = keyed.numbered full (from_has rows full was) in
      let there : Has (ids_of found) (id_in (rowid full)) = mapped_has (λ r. id_in (rowid r)) found (rowid full ∷ []) listed in
      let out = left_out (ids_of found) rows full k.0 h (subst (Has (ids_of found)) (ap id_in k.1) there) in
      let e = sym out ∙ own_rowid full k.0 k.1 in absurd cc

  others_left : (full : Row) → Has rows full → column full 1 ≢ Blob sub → Has less full
  others_left full h apart = kept_in (ids_of found) rows full h (λ id there. elim (cases_Bool (has_rowid id full)) [
    | inl taken ↦
        let x = has_mapped (λ r. id_in (rowid r)) found id there in
        let q = are.sound x.0 x.1 in
        let kq = keyed.numbered q.0 (from_has rows q.0 q.1) in
        let k = keyed.numbered full (from_has rows full h) in
        let id_is : id ≡ kq.0 = x.2 ∙ ap (λ r. id_in (rowid r)) q.3 ∙ ap id_in kq.1 in
        let same : full ≡ q.0 = keyed.apart full q.0 (from_has rows full h) (from_has rows q.0 q.1) (k.1 ∙ ap Int (same_rowid full id k.0 k.1 taken ∙ id_is) ∙ sym kq.1) in
        absurd (apart (ap (λ (r : Row). column r 1) same ∙ of_only sub q.0 q.2))
    | inr free ↦ free
  ])

pub dropped : (db next : Trees) (sub : List ℕ) (found : List Row) → IsKeyed (db account_tree) → AreFound (of_this ∷ []) (db account_tree) (Blob sub ∷ []) found
    → next account_tree ≡ without_all (db account_tree) (ids_of found) → next setting_tree ≡ db setting_tree → next act_tree ≡ db act_tree → next entry_tree ≡ db entry_tree → DropsAccount sub db next
dropped db next sub found keyed are left setting acts entries =
    let rows = db account_tree in
    record {
      setting = setting;
      acts = acts;
      entries = entries;
      keyed = rw left (keyed_less rows (without_all rows (ids_of found)) (λ row h. without_all_has (ids_of found) rows row h) keyed);
      stays = λ row h apart.
          let full = has_mapped three_columns rows row (to_has (map three_columns rows) row h) in
          let in_less = others_left sub rows found keyed are full.0 full.1 (λ e. apart (ap (λ (r : Row). column r 0) full.2 ∙ e)) in
          from_has (map three_columns (next account_tree)) row (rw (left, full.2) (mapped_has three_columns (without_all rows (ids_of found)) full.0 in_less));
      only = λ row h.
          let full = has_mapped three_columns (next account_tree) row (to_has (map three_columns (next account_tree)) row h) in
          let in_less : Has (without_all rows (ids_of found)) full.0 = subst (λ all. Has all full.0) left full.1 in (
            from_has (map three_columns rows) row (rw full.2 (mapped_has three_columns rows full.0 (without_all_has (ids_of found) rows full.0 in_less))),
            λ e. none_left sub rows found keyed are full.0 in_less (sym (ap (λ (r : Row). column r 0) full.2) ∙ e),
          );
      once = λ apart. subst (λ (all : List Row). AreApart (map three_columns all)) (sym left) (apart_without (ids_of found) rows apart);
    }

-- ---- what is put in

account_news : (db : Trees) (sub : List ℕ) (acts : ℕ) (funds : ℤ) (given : List Row) → given ≡ (Null ∷ account_row sub acts funds) ∷ []
    → (edit_of db account_here [] Chosen 0 given).news ≡ (Int (next_rowid (db account_tree)) ∷ account_row sub acts funds) ∷ []
account_news db sub acts funds given is = ap (λ (all : List Row). (edit_of db account_here [] Chosen 0 all).news) is ∙ rw (cast_null, cast_int (pos acts), cast_int funds) refl

or_none : (a b : Bool) → (a || b) ≡ false → (a ≡ false) × (b ≡ false)
or_none true b h = absurd cc
or_none false b h = (refl, h)

free_apart : (rows : List Row) (new row : Row) → is_taken rows new ≡ false → Has rows row → rowid row ≢ rowid new
free_apart [] new row free h same = absurd h
free_apart (r ∷ rows) new row free (inl is) same =
    let own : is_eq (value_cmp (rowid r) (rowid new)) ≡ true = ap (λ (v : Value). is_eq (value_cmp v (rowid new))) (ap rowid (sym is) ∙ same) ∙ ap is_eq (tied_itself value_cmp_total (rowid new)) in
    absurd (let e = rw own at free in cc)
free_apart (r ∷ rows) new row free (inr later) same = free_apart rows new row (or_none _ _ free).1 later same

keyed_more : (rows next : List Row) (new : Row) (id : ℤ) → rowid new ≡ Int id → is_taken rows new ≡ false → IsPermutation (rows ++ new ∷ []) next → IsKeyed rows → IsKeyed next
keyed_more rows next new id is free whole keyed = record {
  numbered = λ row h. elim (back row h) [ inl old ↦ keyed.numbered row old | inr same ↦ (id, ap rowid (sym same) ∙ is) ];
  apart = λ one other h k same. elim (back one h) [
    | inl a ↦ elim (back other k) [
      | inl b ↦ keyed.apart one other a b same
      | inr b ↦ absurd (free_apart rows new one free (to_has rows one a) (same ∙ ap rowid (sym b)))
    ]
    | inr a ↦ elim (back other k) [
      | inl b ↦ absurd (free_apart rows new other free (to_has rows other b) (sym same ∙ ap rowid (sym a)))
      | inr b ↦ sym a ∙ b
    ]
  ];
}
  where
    back : (row : Row) → Contains next row → Contains rows row ⊎ (new ≡ row)
    back row h = Contains-push_cases rows new row (Contains-permutation next (rows ++ new ∷ []) row (IsPermutation-sym (rows ++ new ∷ []) next whole) h)

account_added : (db next : Trees) (sub : List ℕ) (acts : ℕ) (funds : ℤ) (given : List Row) → given ≡ (Null ∷ account_row sub acts funds) ∷ [] → Applies layout Enforced db (edit_of db account_here [] Chosen 0 given) next
    → IsStore next → AddsAccount (account_row sub acts funds) db next
account_added db next sub acts funds given is applied store =
    let new = Int (next_rowid (db account_tree)) ∷ account_row sub acts funds in
    let whole = put_one db next account_here given new (account_news db sub acts funds given is) applied in
    record {
      setting = applied.tables.0 (λ e. absurd cc);
      acts = applied.tables.1.0 (λ e. absurd cc);
      entries = applied.tables.1.1.0 (λ e. absurd cc);
      keyed = keyed_more (db account_tree) (next account_tree) new (next_rowid (db account_tree)) refl whole.0 whole.1;
      accounts = subst (λ all. IsPermutation all (map three_columns (next account_tree))) (map-append three_columns (db account_tree) (new ∷ [])) (IsPermutation-map three_columns (db account_tree ++ new ∷ []) (next account_tree) whole.1);
      store = store;
    }

pub adds_account : (old new : State) (sub : List ℕ) (acts : ℕ) (funds : ℤ) (count : ℕ) → old.now.schema ≡ layout → ExecutesInside 0 new_account (account_row sub acts funds) old new (Ok count)
    → HasRun (AddsAccount (account_row sub acts funds)) old new
adds_account old new sub acts funds count has inside =
    let params = account_row sub acts funds in
    let db = old.now.trees in
    let command = Insert 3 (Values act_terms 4) in
    let w = runs_as new_account params old new layout has command new_account_is new_account_plain count inside.0 in
    let text = statement_of new_account (understood layout new_account) in
    let done = went (subst (λ s. Does old.step_limit (mode_of old) params (record old.now { schema = s }) text None command (Ok (w.tally, new.now))) has w.changed) in
    let now = ap (λ (p : Tally × Database). p.1) (same_value (went (went done.2).2).2) in
    let given = went done.1 in
    let written = went (went given.2).2 in
    let counted = went written.2 in
    let trees : done.0.trees ≡ written.0 = ap (λ (it : Written). it.trees) (same_value counted.2) ∙ same_value counted.1 in
    let applied = one_write db written.0 (edit_of db account_here [] Chosen 0 given.0) written.1 in
    let schema : new.now.schema ≡ layout = ap (λ (d : Database). d.schema) now in
    let all : new.now.trees ≡ written.0 = ap (λ (d : Database). d.trees) now ∙ trees in
    record {
      inside = inside.1.mode;
      committed = inside.1.committed_is;
      schema = schema;
      changes = subst (AddsAccount (account_row sub acts funds) db) (sym all) (account_added db written.0 sub acts funds given.0 given.1.1 applied (subst IsStore all (store_of new.now w.sound schema)));
    }

-- ---- one after the other

sets : (a b c : Trees) (sub : List ℕ) (row : Row) → DropsAccount sub a b → AddsAccount row b c → column row 0 ≡ Blob sub → SetsAccount sub row a c
sets a b c sub row h k of =
    let mid = account_rows b in
    let new = account_rows c in
    record {
      setting = k.setting ∙ h.setting;
      acts = k.acts ∙ h.acts;
      entries = k.entries ∙ h.entries;
      keyed = k.keyed h.keyed;
      there = Contains-permutation (mid ++ row ∷ []) new row k.accounts (Contains-push mid row);
      stays = λ it there apart. Contains-permutation (mid ++ row ∷ []) new it k.accounts (Contains-append_left mid (row ∷ []) it (h.stays it there apart));
      only = λ it there. elim (Contains-push_cases mid row it (Contains-permutation new (mid ++ row ∷ []) it (IsPermutation-sym (mid ++ row ∷ []) new k.accounts) there)) [
        | inl was ↦ inl (h.only it was)
        | inr same ↦ inr same
      ];
      once = λ apart. apart_along (mid ++ row ∷ []) new k.accounts (apart_push mid row (h.once apart) (λ it there same. (h.only it there).1 (ap (λ (r : Row). column r 0) same ∙ of)));
      store = k.store;
    }

pub sets_account : (a b c : State) (sub : List ℕ) (row : Row) → HasRun (DropsAccount sub) a b → HasRun (AddsAccount row) b c → column row 0 ≡ Blob sub → HasRun (SetsAccount sub row) a c
sets_account a b c sub row h k of =
    record {
      inside = k.inside;
      committed = k.committed ∙ h.committed;
      schema = k.schema;
      changes = sets a.now.trees b.now.trees c.now.trees sub row h.changes k.changes of;
    }

-- ---- what is set

has_right : {X : Type 0} (xs ys : List X) (x : X) → Has ys x → Has (xs ++ ys) x
has_right [] ys x h = h
has_right (y ∷ xs) ys x h = inr (has_right xs ys x h)

matched_has : {X Y : Type 0} (p : X → Bool) (f : X → Y) (xs : List X) (x : X) → Has xs x → p x ≡ true → Has (flat_map (λ z. cond (p z) (f z ∷ []) []) xs) (f x)
matched_has p f [] x h passes = absurd h
matched_has p f (z ∷ xs) x (inl same) passes = rw (← same, passes) (inl refl)
matched_has p f (z ∷ xs) x (inr later) passes = has_right (cond (p z) (f z ∷ []) []) (flat_map (λ w. cond (p w) (f w ∷ []) []) xs) (f x) (matched_has p f xs x later passes)

has_matched : {X Y : Type 0} (p : X → Bool) (f : X → Y) (xs : List X) (y : Y) → Has (flat_map (λ x. cond (p x) (f x ∷ []) []) xs) y → (x : X) × Has xs x × (p x ≡ true) × (y ≡ f x)
has_matched p f [] y h = absurd h
has_matched {X} {Y} p f (x ∷ xs) y h = go (p x) refl h (has_matched p f xs y)
  where
    go : (b : Bool) → p x ≡ b → Has (cond b (f x ∷ []) [] ++ flat_map (λ z. cond (p z) (f z ∷ []) []) xs) y
        → (Has (flat_map (λ z. cond (p z) (f z ∷ []) []) xs) y → (z : X) × Has xs z × (p z ≡ true) × (y ≡ f z)) → (z : X) × Has (x ∷ xs) z × (p z ≡ true) × (y ≡ f z)
    go true is (inl same) later = (x, inl refl, is, same)
    go true is (inr there) later = let r = later there in (r.0, inr r.1, r.2, r.3)
    go false is there later = let r = later there in (r.0, inr r.1, r.2, r.3)

-- what the statement makes of a row: its rowid, and the row that is put in its place
abbrev set_row : ℕ → ℤ → Row → Row
set_row acts funds r = rowid r ∷ rowid r ∷ column r 1 ∷ Int (pos acts) ∷ Int funds ∷ []

-- these are made of the rows of a subscriber
record AreSet (rows : List Row) (sub : List ℕ) (acts : ℕ) (funds : ℤ) (found : List Row) : Type 0 where
  pub sound : (x : Row) → Has found x → (r : Row) × Has rows r × (is_of sub r ≡ true) × (x ≡ set_row acts funds r)
  pub complete : (r : Row) → Has rows r → is_of sub r ≡ true → Has found (set_row acts funds r)

set_of : (db : Trees) (sub : List ℕ) (acts : ℕ) (funds : ℤ) (found : List Row) → IsAnswer of_sub (overlay db []) (account_row sub acts funds) found → AreSet (db account_tree) sub acts funds found
set_of db sub acts funds found answer =
    let given = account_row sub acts funds in
    let test = λ (r : Row). is_of sub r in
    let env = λ (r : Row). given ∷ r ∷ [] in
    let all = matches (overlay db []) (of_this ∷ []) (inner 5 end) (given ∷ []) in
    let kept : answer.kept ≡ map (output of_sub) all = answer.distinct ∙ ap (map (output of_sub)) answer.grouped in
    record {
      sound = λ x h.
          let o = has_mapped (λ (k : Output). k.1) answer.ordered x (subst (λ l. Has l x) answer.shown h) in
          let among = to_has answer.kept o.0 (Contains-permutation answer.ordered answer.kept o.0 (IsPermutation-sym _ _ answer.same) (from_has answer.ordered o.0 o.1)) in
          let e = has_mapped (output of_sub) all o.0 (subst (λ l. Has l o.0) kept among) in
          let r = has_matched test env (db account_tree) e.0 e.1 in
          (r.0, r.1, r.2, o.2 ∙ ap (λ (k : Output). k.1) (e.2 ∙ ap (output of_sub) r.3));
      complete = λ r h passes.
          let o = output of_sub (env r) in
          let there = subst (λ l. Has l o) (sym kept) (mapped_has (output of_sub) all (env r) (matched_has test env (db account_tree) r h passes)) in
          let among = to_has answer.ordered o (Contains-permutation answer.kept answer.ordered o answer.same (from_has answer.kept o there)) in
          subst (λ l. Has l (set_row acts funds r)) (sym answer.shown) (mapped_has (λ (k : Output). k.1) answer.ordered o among);
    }

-- their rowids are those of the rows of the subscriber
abbrev rowids_in : List Row → List Row
rowids_in = map (λ (x : Row). rowid x ∷ [])

found_in : (rows : List Row) (sub : List ℕ) (acts : ℕ) (funds : ℤ) (found : List Row) → AreSet rows sub acts funds found → AreFound (of_this ∷ []) rows (Blob sub ∷ []) (rowids_in found)
found_in rows sub acts funds found are = record {
  sound = λ x h.
      let o = has_mapped (λ (y : Row). rowid y ∷ []) found x h in
      let r = are.sound o.0 o.1 in
      (r.0, r.1, r.2, o.2 ∙ ap (λ (y : Row). rowid y ∷ []) r.3);
  complete = λ r h passes. mapped_has (λ (y : Row). rowid y ∷ []) found (set_row acts funds r) (are.complete r h passes);
}

ids_same : (found : List Row) → ids_of (rowids_in found) ≡ ids_of found
ids_same [] = refl
ids_same (x ∷ found) = ap (λ (ids : List ℤ). id_in (rowid x) ∷ ids) (ids_same found)

-- one row is put in the place of another with its rowid
module _ (db next : Trees) (sub : List ℕ) (acts : ℕ) (funds : ℤ) (keyed : IsKeyed (db account_tree)) (store : IsStore next) where
  one_set : (x : Row) → AreSet (db account_tree) sub acts funds (x ∷ []) → Applies layout Enforced db (edit_of db account_here (ids_of (x ∷ [])) Given 1 (x ∷ [])) next → SetsAccount sub (account_row sub acts funds) db next
  one_set x are applied =
      let rows = db account_tree in
      let r = are.sound x (inl refl) in
      let k = keyed.numbered r.0 (from_has rows r.0 r.1) in
      let new = Int k.0 ∷ account_row sub acts funds in
      let less = without_all rows (ids_of (x ∷ [])) in
      let mid = with_tree db account_tree less in
      let news : (edit_of db account_here (ids_of (x ∷ [])) Given 1 (x ∷ [])).news ≡ new ∷ [] =
      ap (λ (y : Row). cast_row account_here (drop 1 y) ∷ []) r.3
      ∙ ap₂ (λ (id of : Value). cast_row account_here (id ∷ of ∷ Int (pos acts) ∷ Int funds ∷ []) ∷ []) k.1 (of_only sub r.0 r.2)
      ∙ rw (cast_int k.0, cast_int (pos acts), cast_int funds) refl in
      let fresh : are_fresh less (new ∷ []) ≡ true = subst (λ all. are_fresh less all ≡ true) news applied.fresh in
      let free : is_taken less new ≡ false = not-true (is_taken less new) (and_parts (not (is_taken less new)) true fresh).0 in
      let put : next account_tree ≡ put_row new less = applied.rows ∙ ap (λ all. put_all less all) news in
      let whole : IsPermutation (less ++ new ∷ []) (next account_tree) = subst (IsPermutation (less ++ new ∷ [])) (sym put) (put_fresh new less free) in
      let left : mid account_tree ≡ without_all rows (ids_of (rowids_in (x ∷ []))) = ap (without_all rows) (sym (ids_same (x ∷ []))) in
      let drops : DropsAccount sub db mid = dropped db mid sub (rowids_in (x ∷ [])) keyed (found_in rows sub acts funds (x ∷ []) are) left refl refl refl in
      let adds : AddsAccount (account_row sub acts funds) mid next = record {
        setting = applied.tables.0 (λ e. absurd cc);
        acts = applied.tables.1.0 (λ e. absurd cc);
        entries = applied.tables.1.1.0 (λ e. absurd cc);
        keyed = keyed_more less (next account_tree) new k.0 refl free whole;
        accounts = subst (λ all. IsPermutation all (map three_columns (next account_tree))) (map-append three_columns less (new ∷ [])) (IsPermutation-map three_columns (less ++ new ∷ []) (next account_tree) whole);
        store = store;
      } in
      sets db mid next sub (account_row sub acts funds) drops adds refl

  none_set : AreSet (db account_tree) sub acts funds [] → Applies layout Enforced db (edit_of db account_here [] Given 1 []) next → DropsAccount sub db next
  none_set are applied =
      dropped db next sub [] keyed (found_in (db account_tree) sub acts funds [] are) applied.rows (applied.tables.0 (λ e. absurd cc)) (applied.tables.1.0 (λ e. absurd cc)) (applied.tables.1.1.0 (λ e. absurd cc))

  by_count : (found : List Row) → AreSet (db account_tree) sub acts funds found → Applies layout Enforced db (edit_of db account_here (ids_of found) Given 1 found) next
      → (length found ≡ 0 → DropsAccount sub db next) × (length found ≡ 1 → SetsAccount sub (account_row sub acts funds) db next)
  by_count [] are applied = (λ _. none_set are applied, λ e. absurd (omega (arith, e)))
  by_count (x ∷ []) are applied = (λ e. absurd (omega (arith, e)), λ _. one_set x are applied)
  by_count (x ∷ y ∷ more) are applied = (λ e. absurd (omega (arith, e)), λ e. absurd (omega (arith, e)))

as_many : (rows sources : List Row) → length (numbered Given rows sources) ≡ length sources
as_many rows [] = refl
as_many rows (x ∷ sources) = ap suc (as_many (put_row x rows) sources)

-- If a row was set, the account is set. If none was, the table has no row of the subscriber.
pub updates_account : (old new : State) (sub : List ℕ) (acts : ℕ) (funds : ℤ) (count : ℕ) → old.now.schema ≡ layout → IsKeyed (old.now.trees account_tree) → ExecutesInside 0 set_account (account_row sub acts funds) old new (Ok count)
    → (count ≡ 0 → HasRun (DropsAccount sub) old new) × (count ≡ 1 → HasRun (SetsAccount sub (account_row sub acts funds)) old new)
updates_account old new sub acts funds count has keyed inside =
    let params = account_row sub acts funds in
    let db = old.now.trees in
    let command = Update 3 (record { lets = []; body = of_sub }) in
    let w = runs_as set_account params old new layout has command set_account_is set_account_plain count inside.0 in
    let text = statement_of set_account (understood layout set_account) in
    let done = went (subst (λ s. Does old.step_limit (mode_of old) params (record old.now { schema = s }) text None command (Ok (w.tally, new.now))) has w.changed) in
    let shown = same_value (went (went done.2).2).2 in
    let now = ap (λ (p : Tally × Database). p.1) shown in
    let given = went done.1 in
    let written = went given.2 in
    let trees : done.0.trees ≡ written.0 = ap (λ (it : Written). it.trees) (same_value written.2) in
    let edit = edit_of db account_here (ids_of given.0) Given 1 given.0 in
    let rows : done.0.rows ≡ edit.news = ap (λ (it : Written). it.rows) (same_value written.2) in
    let tallied : w.tally.rows ≡ Some (length done.0.rows) = ap (λ (p : Tally × Database). p.0.rows) shown in
    let counted : count ≡ length given.0 =
    w.counted ∙ ap (λ (n : Option ℕ). unwrap_or n 0) tallied ∙ ap length rows ∙ as_many _ (map (λ (s : Row). cast_row account_here (drop 1 s)) given.0) ∙ length-map given.0 (λ (s : Row). cast_row account_here (drop 1 s)) in
    let schema : new.now.schema ≡ layout = ap (λ (d : Database). d.schema) now in
    let all : new.now.trees ≡ written.0 = ap (λ (d : Database). d.trees) now ∙ trees in
    let applied = one_write db written.0 edit written.1 in
    let changed = by_count db written.0 sub acts funds keyed (subst IsStore all (store_of new.now w.sound schema)) given.0 (set_of db sub acts funds given.0 (given.1.answer Null)) applied in (
      λ none. record { inside = inside.1.mode; committed = inside.1.committed_is; schema = schema; changes = subst (DropsAccount sub db) (sym all) (changed.0 (sym counted ∙ none)) },
      λ one. record { inside = inside.1.mode; committed = inside.1.committed_is; schema = schema; changes = subst (SetsAccount sub (account_row sub acts funds) db) (sym all) (changed.1 (sym counted ∙ one)) },
    )

-- the statements of an append, one after the other
pub appends : (a b c d : State) (sub : List ℕ) (place : ℕ) (body : List ℕ) (es : List Entry) (funds : ℤ) → HasRun (AddsActs (act_row sub place body ∷ [])) a b
    → HasRun (AddsEntries (entry_rows_of sub place 0 es)) b c → HasRun (SetsAccount sub (account_row sub place funds)) c d → HasRun (Appends sub place body es funds) a d
appends a b c d sub place body es funds h k m =
    let accounts : c.now.trees account_tree ≡ a.now.trees account_tree = k.changes.accounts ∙ h.changes.accounts in
    let rows : account_rows c.now.trees ≡ account_rows a.now.trees = ap (λ (rows : List Row). map three_columns rows) accounts in
    record {
      inside = m.inside;
      committed = m.committed ∙ k.committed ∙ h.committed;
      schema = m.schema;
      changes = record {
        setting = m.changes.setting ∙ k.changes.setting ∙ h.changes.setting;
        acts = rw (m.changes.acts ∙ k.changes.acts) h.changes.acts;
        entries = rw (m.changes.entries, ← h.changes.entries) k.changes.entries;
        keyed = m.changes.keyed;
        there = m.changes.there;
        stays = λ row there apart. m.changes.stays row (rw rows there) apart;
        only = λ row there. elim (m.changes.only row there) [ inl was ↦ inl (subst (λ all. Contains all row) rows was.0, was.1) | inr same ↦ inr same ];
        once = λ apart. m.changes.once (subst AreApart (sym rows) apart);
        store = m.changes.store;
      };
    }

pub keyed_later : (a b c : State) (rows more : List Row) → HasRun (AddsActs rows) a b → HasRun (AddsEntries more) b c → IsKeyed (a.now.trees account_tree) → IsKeyed (c.now.trees account_tree)
keyed_later a b c rows more h k keyed = rw (k.changes.accounts ∙ h.changes.accounts) keyed
