-- The tables of a plan, from the values that the code goes over.
use Rattle.std.proofs.Common.{◌≡◌, ℕ, zero, suc, ◌+◌, ◌<◌, ◌≤◌, Bool, true, false, not, ◌&&◌, nat_le, cond, List, [], ◌∷◌, length}
use Rattle.std.proofs.Common.{drop, get_or, ◌⊎◌, is_some, Result, Ok, Err, refl, sym, ap, ◌∙◌, arith, inl}
use Rattle.std.proofs.Common.{inr}
use Rattle.std.specs.List.{list_all, insert}
use Rattle.std.specs.List.Sorted.{IsPartitionPoint}
use Rattle.std.proofs.lemmas.Bool.{and_parts, and_from, cases_Bool, cond-true, cond-false}
use Rattle.std.proofs.lemmas.Bool.Decides.{nat_tests}
use Rattle.std.proofs.Math.ListN.{drop_of_length-le}
use Rattle.toml.proofs.Views.{items_view-drop}
use Rattle.toml.specs.Data.{Members, as_table, as_array}
use Rattle.toml.specs.View.{view, items_view}
use Rattle.toml.specs.declared.value.Value.{Value}
use Rattle.dcc_tariff.specs.Plans.{precedes, are_ordered}
use Rattle.dcc_tariff.specs.PlanTexts.{value_at, are_tables, count, in_range, tables_at, place, versions_onto, version_of_value}
use Rattle.dcc_tariff.specs.PlanTexts.{GivesBy, ◌>>=◌}
use Rattle.dcc_tariff.specs.declared.fault.PlanFault.{PlanFault}
use Rattle.dcc_tariff.specs.declared.fault.PlanFault.TheVariants.{NotToml, MissingKey, Range, BadMoment, Memory}
use Rattle.dcc_tariff.specs.declared.version.Version.{Version}

are_tables-view : (values : List Value) → are_tables (items_view values) ≡ list_all (λ value. is_some (as_table (view value))) values
are_tables-view [] = refl
are_tables-view (v ∷ values) = ap (λ more. is_some (as_table (view v)) && more) (are_tables-view values)

count-view : (values : List Value) → count (items_view values) ≡ length values
count-view [] = refl
count-view (v ∷ values) = ap suc (count-view values)

pub tables_at-found : (key : List ℕ) (table : Members) (values : List Value) → value_at as_array key table ≡ Ok (items_view values)
    → tables_at key table ≡ cond (list_all (λ value. is_some (as_table (view value))) values)
    (in_range (nat_le 1 (length values) && nat_le (length values) 1000) (items_view values)) (Err MissingKey)
unfolding tables_at
tables_at-found key table values found =
    ap (λ read. read >>= λ tables. cond (are_tables tables) (in_range (nat_le 1 (count tables) && nat_le (count tables) 1000) tables) (Err MissingKey)) found
    ∙ rw (are_tables-view values, count-view values)

-- the version in its place, by the place where those that stand before it end
pub place-is : (version : Version) (xs : List Version) (n : ℕ) → n ≤ length xs
    → IsPartitionPoint (λ x. precedes x version ≡ true) (λ x. precedes x version ≡ false) xs n → insert xs n version ≡ place version xs
place-is version [] zero within point = refl
place-is version [] (suc n) within point = absurd (omega arith)
place-is version (x ∷ xs) zero within point =
    sym (cond-false (precedes x version) (x ∷ place version xs) (version ∷ x ∷ xs) (point.1 0 x (omega arith) (omega arith)))
place-is version (x ∷ xs) (suc n) within point =
    ap (λ ys. x ∷ ys) (place-is version xs n (omega arith)
    (λ k d from to. point.0 (suc k) d (omega arith) (omega arith), λ k d from to. point.1 (suc k) d (omega arith) (omega arith)))
    ∙ sym (cond-true (precedes x version) (x ∷ place version xs) (version ∷ x ∷ xs) (point.0 0 x (omega arith) (omega arith)))

pub precedes_steady : (version x y : Version) → precedes y x ≡ false → precedes y version ≡ true → precedes x version ≡ true
precedes_steady version x y order h = grind (arith, nat_tests)

-- a test that all pass with the version in its place
list_all-place : (p : Version → Bool) (version : Version) (xs : List Version) → p version ≡ true → list_all p xs ≡ true
    → list_all p (place version xs) ≡ true
list_all-place p version [] here all = and_from (p version) true here refl
list_all-place p version (x ∷ xs) here all =
    let (first, more) = and_parts (p x) (list_all p xs) all in
    elim (cases_Bool (precedes x version)) [
      | inl before ↦ ap (list_all p) (cond-true (precedes x version) (x ∷ place version xs) (version ∷ x ∷ xs) before)
          ∙ and_from (p x) (list_all p (place version xs)) first (list_all-place p version xs here more)
      | inr after ↦ ap (list_all p) (cond-false (precedes x version) (x ∷ place version xs) (version ∷ x ∷ xs) after)
          ∙ and_from (p version) (list_all p (x ∷ xs)) here all
    ]

not_both : (x y : Version) → precedes x y ≡ true → not (precedes y x) ≡ true
not_both x y h = grind (arith, nat_tests)

still_after : (version x y : Version) → precedes x version ≡ false → not (precedes y x) ≡ true → not (precedes y version) ≡ true
still_after version x y h order = grind (arith, nat_tests)

all_after : (version x : Version) (ys : List Version) → precedes x version ≡ false → list_all (λ y. not (precedes y x)) ys ≡ true
    → list_all (λ y. not (precedes y version)) ys ≡ true
all_after version x [] h all = refl
all_after version x (y ∷ ys) h all =
    let (first, more) = and_parts (not (precedes y x)) (list_all (λ z. not (precedes z x)) ys) all in
    and_from (not (precedes y version)) (list_all (λ z. not (precedes z version)) ys) (still_after version x y h first)
    (all_after version x ys h more)

-- a list stays in order
pub place_ordered : (version : Version) (xs : List Version) → are_ordered xs ≡ true → are_ordered (place version xs) ≡ true
place_ordered version [] ordered = refl
place_ordered version (x ∷ xs) ordered =
    let (first, others) = and_parts (list_all (λ y. not (precedes y x)) xs) (are_ordered xs) ordered in
    elim (cases_Bool (precedes x version)) [
      | inl before ↦ ap are_ordered (cond-true (precedes x version) (x ∷ place version xs) (version ∷ x ∷ xs) before)
          ∙ and_from (list_all (λ y. not (precedes y x)) (place version xs)) (are_ordered (place version xs))
          (list_all-place (λ y. not (precedes y x)) version xs (not_both x version before) first) (place_ordered version xs others)
      | inr after ↦ ap are_ordered (cond-false (precedes x version) (x ∷ place version xs) (version ∷ x ∷ xs) after)
          ∙ and_from (list_all (λ y. not (precedes y version)) (x ∷ xs)) (are_ordered (x ∷ xs))
          (and_from (not (precedes x version)) (list_all (λ y. not (precedes y version)) xs) (rw after) (all_after version x xs after first)) ordered
    ]

pub not_few : (n : ℕ) → (n ≡ 0) ⊎ (1000 < n) → (nat_le 1 n && nat_le n 1000) ≡ false
not_few n (inl none) = grind (arith, nat_tests)
not_few n (inr many) = grind (arith, nat_tests)

pub few : (n : ℕ) → (n ≡ 0 → ⊥) → n ≤ 1000 → (nat_le 1 n && nat_le n 1000) ≡ true
few n some h = grind (arith, nat_tests)

-- the next table, and no more tables
pub versions_onto-step : (placed : List Version) (values : List Value) (i : ℕ) (value : Value) → i < length values
    → value ≡ get_or values i value
    → versions_onto placed (items_view (drop i values))
    ≡ (version_of_value (view value) >>= λ version. versions_onto (place version placed) (items_view (drop (i + 1) values)))
unfolding versions_onto
versions_onto-step placed values i value within at_value =
    ap (versions_onto placed) (items_view-drop values i value within)
    ∙ ap (λ v. version_of_value (view v) >>= λ version. versions_onto (place version placed) (items_view (drop (i + 1) values)))
    (sym at_value)

pub versions_onto-end : (placed : List Version) (values : List Value) (i : ℕ) → length values ≤ i
    → versions_onto placed (items_view (drop i values)) ≡ Ok placed
unfolding versions_onto
versions_onto-end placed values i over = ap (λ vs. versions_onto placed (items_view vs)) (drop_of_length-le values over)

-- a fault that is meant is given
pub gives_fault : {X Y : Type 0} (seen : X → Y) (fault : PlanFault) (meant : Result Y PlanFault) → meant ≡ Err fault
    → GivesBy seen (Err fault) meant
gives_fault seen NotToml meant h = h
gives_fault seen MissingKey meant h = h
gives_fault seen Range meant h = h
gives_fault seen BadMoment meant h = h
gives_fault seen Memory meant h = tt
