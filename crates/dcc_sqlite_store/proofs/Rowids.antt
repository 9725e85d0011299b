-- Rowids that rise tell rows apart.
use Rattle.std.proofs.Common.{◌≡◌, inl, inr, ℤ, ◌≤ℤ◌, ◌<ℤ◌, Bool, true, false, List, [], ◌∷◌, map, refl, sym, ap, subst, ◌∙◌, arith}
use Rattle.std.proofs.lemmas.Int.{ints}
use Rattle.std.specs.Cmp.{int_cmp_is}
use Rattle.std.specs.Ordering.{is_eq, ordering_reverse}
use Rattle.std.specs.declared.cmp.Ordering.{Ordering}
use Rattle.std.specs.declared.cmp.Ordering.TheVariants.{Less, Equal, Greater}
use Rattle.std.specs.List.{AllByRecursion, IsDistinct}
use Rattle.std.specs.List.Sorted.{IsPermutation}
use Rattle.std.proofs.lemmas.Cmp.{tied_itself}
use Rattle.std.proofs.lemmas.List.Sorted.{IsPermutation-sym, IsPermutation-map, Contains-permutation}
use Rattle.std.proofs.lemmas.Map.Keys.{IsDistinct-IsPermutation}
use Rattle.sqlite.specs.declared.types.Value.{Value}
use Rattle.sqlite.specs.declared.types.Value.TheVariants.{Int}
use Rattle.sqlite.specs.Order.{Row, column, value_cmp}
use Rattle.sqlite.specs.Query.{output, Output}
use Rattle.sqlite.specs.Tree.{Trees, rowid}
use Rattle.sqlite_value.proofs.OrderLemmas.{value_cmp_total, value_cmp-Int}
use Rattle.sqlite_rules.specs.Lists.{Has}
use Rattle.sqlite_rules.proofs.ProbeLemmas.{mapped_has}
use Rattle.dcc_sqlite_store.specs.Queries.{Shows, rowids_query}
use Rattle.dcc_sqlite_store.specs.inner.Rowids.{AreAbove, AreRising}
use Rattle.dcc_sqlite_store.specs.inner.Trees.{account_tree, IsKeyed}
use Rattle.dcc_sqlite_store.proofs.Lists.{to_has, from_has}
use Rattle.dcc_sqlite_store.proofs.Answering.{each_row, shown_of}

-- ---- rows that rise

-- whether two rows have one rowid
abbrev same_id : Row → Row → Bool
same_id a b = is_eq (value_cmp (rowid a) (rowid b))

itself : (a : Row) → same_id a a ≡ true
itself a = ap is_eq (tied_itself value_cmp_total (rowid a))

-- the row is one integer, above this
abbrev IsAbove : ℤ → Row → Type 0
IsAbove low row = (id : ℤ) × (row ≡ Int id ∷ []) × (low <ℤ id)

all_above : (rows : List Row) (low last : ℤ) → low ≤ℤ last → AreAbove rows last → AllByRecursion (IsAbove low) rows
all_above [] low last h above = tt
all_above (row ∷ rows) low last h above =
    ((above.0, above.1, omega (arith, ints, h, above.2)), all_above rows low above.0 (omega (arith, ints, h, above.2)) above.3)

apart_above : (low : ℤ) (row : Row) → IsAbove low row → same_id (Int low ∷ []) row ≡ false
apart_above low row h =
    rw h.1 (ap is_eq (value_cmp-Int low h.0 ∙ sym (int_cmp_is low h.0 Less h.2)))

all_apart : (rows : List Row) (low : ℤ) → AllByRecursion (IsAbove low) rows → AllByRecursion (λ row. same_id (Int low ∷ []) row ≡ false) rows
all_apart [] low h = tt
all_apart (row ∷ rows) low h = (apart_above low row h.0, all_apart rows low h.1)

distinct_above : (rows : List Row) (low : ℤ) → AreAbove rows low → IsDistinct same_id rows
unfolding IsDistinct
distinct_above [] low h = tt
distinct_above (row ∷ rows) low h =
    (rw h.1 (all_apart rows h.0 (all_above rows h.0 h.0 (omega (arith, ints)) h.3)), distinct_above rows h.0 h.3)

distinct_rising : (rows : List Row) → AreRising rows → IsDistinct same_id rows
unfolding IsDistinct
distinct_rising [] h = tt
distinct_rising (row ∷ rows) h = (rw h.1 (all_apart rows h.0 (all_above rows h.0 h.0 (omega (arith, ints)) h.2)), distinct_above rows h.0 h.2)

number_above : (rows : List Row) (low : ℤ) (row : Row) → AreAbove rows low → Has rows row → (id : ℤ) × (row ≡ Int id ∷ [])
number_above [] low row h there = absurd there
number_above (first ∷ rows) low row h (inl same) = (h.0, same ∙ h.1)
number_above (first ∷ rows) low row h (inr there) = number_above rows h.0 row h.3 there

number_of : (rows : List Row) (row : Row) → AreRising rows → Has rows row → (id : ℤ) × (row ≡ Int id ∷ [])
number_of [] row h there = absurd there
number_of (first ∷ rows) row h (inl same) = (h.0, same ∙ h.1)
number_of (first ∷ rows) row h (inr there) = number_above rows h.0 row h.2 there

-- ---- rows by their rowids

-- the rowid alone
abbrev id_row : Row → Row
id_row row = rowid row ∷ []

apart_at : (rows : List Row) (test : Row → Bool) (row : Row) → AllByRecursion (λ it. test it ≡ false) (map id_row rows) → Has rows row → test (id_row row) ≡ false
apart_at [] test row h there = absurd there
apart_at (first ∷ rows) test row h (inl same) = ap (λ (r : Row). test (id_row r)) same ∙ h.0
apart_at (first ∷ rows) test row h (inr there) = apart_at rows test row h.1 there

clash : (a b : Row) → same_id (id_row a) (id_row b) ≡ false → rowid a ≡ rowid b → ⊥
clash a b apart same =
    let e : true ≡ false = sym (itself (id_row b)) ∙ sym (ap (λ (v : Value). same_id (v ∷ []) (id_row b)) same) ∙ apart in cc

tells_apart : (rows : List Row) (one other : Row) → IsDistinct same_id (map id_row rows) → Has rows one → Has rows other → rowid one ≡ rowid other → one ≡ other
unfolding IsDistinct
tells_apart [] one other h k l same = absurd k
tells_apart (row ∷ rows) one other h (inl a) (inl b) same = a ∙ sym b
tells_apart (row ∷ rows) one other h (inl a) (inr b) same = absurd (clash row other (apart_at rows (same_id (id_row row)) other h.0 b) (ap rowid (sym a) ∙ same))
tells_apart (row ∷ rows) one other h (inr a) (inl b) same = absurd (clash row one (apart_at rows (same_id (id_row row)) one h.0 a) (ap rowid (sym b) ∙ sym same))
tells_apart (row ∷ rows) one other h (inr a) (inr b) same = tells_apart rows one other h.1 a b same

turned : (o : Ordering) → is_eq (ordering_reverse o) ≡ is_eq o
turned Less = refl
turned Equal = refl
turned Greater = refl

flips : (a b : Row) → same_id a b ≡ same_id b a
flips a b = ap is_eq (value_cmp_total.antisymm (rowid a) (rowid b)) ∙ turned (value_cmp (rowid b) (rowid a))

-- ---- the table of accounts

ids_are : (rows : List Row) → shown_of (map (output rowids_query) (each_row rows)) ≡ map id_row rows
ids_are [] = refl
ids_are (r ∷ rows) = ap (λ (more : List Row). id_row r ∷ more) (ids_are rows)

shows_rowids : (db : Trees) (rows : List Row) → Shows rowids_query db rows → IsPermutation (map id_row (db account_tree)) rows
shows_rowids db rows a =
    let kept : shown_of a.kept ≡ map id_row (db account_tree) =
    ap shown_of (a.distinct ∙ ap (map (output rowids_query)) a.grouped) ∙ ids_are (db account_tree) in
    let ordered = IsPermutation-map (λ (o : Output). o.1) a.kept a.ordered a.same in
    let shown : rows ≡ shown_of a.ordered = a.shown in
    subst (IsPermutation (map id_row (db account_tree))) (sym shown) (subst (λ all. IsPermutation all (shown_of a.ordered)) kept ordered)

pub keyed_where_rising : (db : Trees) (rows : List Row) → Shows rowids_query db rows → AreRising rows → IsKeyed (db account_tree)
keyed_where_rising db rows shows rising =
    let same = shows_rowids db rows shows in
    let all = db account_tree in
    let distinct = IsDistinct-IsPermutation same_id flips rows (map id_row all) (IsPermutation-sym (map id_row all) rows same) (distinct_rising rows rising) in
    record {
      numbered = λ row there.
          let shown = Contains-permutation (map id_row all) rows (id_row row) same (from_has (map id_row all) (id_row row) (mapped_has id_row all row (to_has all row there))) in
          let it = number_of rows (id_row row) rising (to_has rows (id_row row) shown) in
          (it.0, ap (λ (r : Row). column r 0) it.1);
      apart = λ one other h k. tells_apart all one other distinct (to_has all one h) (to_has all other k);
    }
