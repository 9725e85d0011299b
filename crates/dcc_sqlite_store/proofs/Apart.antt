-- Rows of which none comes twice.
use Rattle.std.proofs.Common.{◌≡◌, ◌≢◌, inl, inr, ℕ, zero, suc, ◌<◌, List, [], ◌∷◌, ◌++◌, map, length, get_or, refl, sym, ap, ◌∙◌, arith}
use Rattle.std.specs.Prelude.{AllPairs, All}
use Rattle.std.specs.List.{Contains, swap}
use Rattle.std.specs.List.Sorted.{IsPermutation}
use Rattle.std.proofs.lemmas.Bool.{cases_eq, cases_lt}
use Rattle.std.proofs.lemmas.List.{length-map, get_or-map}
use Rattle.std.proofs.lemmas.List.Edits.{Swapped, swapped_from_swap, length-swap}
use Rattle.std.proofs.lemmas.List.Kept.{AllPairs-cons, AllPairs-filter}
use Rattle.std.proofs.lemmas.List.Quantifiers.{all_pairs_push}
use Rattle.std.proofs.lemmas.List.Sorted.{IsPermutation-keeps}
use Rattle.sqlite.specs.Order.{Row}
use Rattle.sqlite.specs.Tree.{without_rowid}
use Rattle.sqlite.specs.Edit.{without_all}
use Rattle.dcc_sqlite_store.specs.inner.Trees.{AreApart, three_columns}

abbrev Differ : {X : Type 0} → X → X → Type 0
Differ one other = one ≢ other

-- where a place went when a and b changed places
moved_place : {X : Type 0} (f g : ℕ → X) (a b n : ℕ) → Swapped f g a b → a < n → b < n → (p : ℕ) → p < n → (s : ℕ) × (s < n) × (g p ≡ f s) × (p ≡ a → s ≡ b) × (p ≡ b → s ≡ a) × ((p ≡ a → ⊥) → (p ≡ b → ⊥) → s ≡ p)
moved_place f g a b n sw la lb p lp = elim (cases_eq p a) [
  | inl ea ↦ (b, lb, ap g ea ∙ sw.0, (λ _. refl), (λ eb. sym eb ∙ ea), (λ u v. absurd (u ea)))
  | inr na ↦ elim (cases_eq p b) [
    | inl eb ↦ (a, la, ap g eb ∙ sw.1, (λ e. absurd (na e)), (λ _. refl), (λ u v. absurd (v eb)))
    | inr nb ↦ (p, lp, sw.2 p na nb, (λ e. absurd (na e)), (λ e. absurd (nb e)), (λ u v. refl))
  ]
]

-- two places go to two places
images_differ : (a b i j s t : ℕ) → (i ≡ j → ⊥) → (i ≡ a → s ≡ b) → (i ≡ b → s ≡ a) → ((i ≡ a → ⊥) → (i ≡ b → ⊥) → s ≡ i) → (j ≡ a → t ≡ b) → (j ≡ b → t ≡ a) → ((j ≡ a → ⊥) → (j ≡ b → ⊥) → t ≡ j) → s ≡ t → ⊥
images_differ a b i j s t ne p q r x y z e = grind arith

apart_either : {X : Type 0} (xs : List X) (s t : ℕ) (d : X) → AllPairs Differ xs → (s ≡ t → ⊥) → s < length xs → t < length xs → get_or xs s d ≢ get_or xs t d
apart_either xs s t d h ne ls lt = elim (cases_lt s t) [ inl low ↦ h s t d low lt | inr high ↦ λ e. h t s d (omega (arith, high, ne)) ls (sym e) ]

-- rows that differ do so in any order
pub apart_along : (xs ys : List Row) → IsPermutation xs ys → AreApart xs → AreApart ys
apart_along xs ys p start = IsPermutation-keeps xs AreApart start (λ l a b la lb h i j d ij lj.
    let n = length l in
    let long : length (swap l a b) ≡ length l = length-swap l a b in
    let sw = swapped_from_swap l (swap l a b) a b d la lb refl in
    let u = moved_place _ _ a b n sw la lb i (omega (arith, ij, lj, long)) in
    let v = moved_place _ _ a b n sw la lb j (omega (arith, lj, long)) in
    let apart = apart_either l u.0 v.0 d h (images_differ a b i j u.0 v.0 (λ e. omega (arith, e, ij)) u.3 u.4 u.5 v.3 v.4 v.5) u.1 v.1 in
    λ e. apart (sym u.2 ∙ e ∙ v.2)) ys p

-- one row more, which none of the others is
pub apart_push : (rows : List Row) (row : Row) → AreApart rows → ((it : Row) → Contains rows it → it ≢ row) → AreApart (rows ++ row ∷ [])
apart_push rows row h new = all_pairs_push Differ rows row h (λ k d low. new (get_or rows k d) (contains_at rows k d low))
  where
    contains_at : (xs : List Row) (k : ℕ) (d : Row) → k < length xs → Contains xs (get_or xs k d)
    contains_at xs k d low = (k, low, default_free xs k (get_or xs k d) d low)
      where
        default_free : (ys : List Row) (i : ℕ) (d e : Row) → i < length ys → get_or ys i d ≡ get_or ys i e
        default_free [] i d e low = absurd (omega (arith, low))
        default_free (y ∷ ys) zero d e low = refl
        default_free (y ∷ ys) (suc i) d e low = default_free ys i d e (omega (arith, low))

-- ---- what is taken out leaves rows that differ

apart_map : {X : Type 0} (f : X → Row) (xs : List X) → AreApart (map f xs) → AllPairs (λ one other. f one ≢ f other) xs
apart_map f xs h i j d below within e =
    let n : length (map f xs) ≡ length xs = length-map xs f in
    h i j (f d) below (omega (arith, within, n)) (get_or-map f xs i d (f d) (omega (arith, below, within)) ∙ e ∙ sym (get_or-map f xs j d (f d) within))

map_apart : {X : Type 0} (f : X → Row) (xs : List X) → AllPairs (λ one other. f one ≢ f other) xs → AreApart (map f xs)
map_apart f [] h i j d below within e = absurd (omega (arith, within))
map_apart f (x ∷ xs) h i j d below within e =
    let n : length (map f (x ∷ xs)) ≡ length (x ∷ xs) = length-map (x ∷ xs) f in
    h i j x below (omega (arith, within, n)) (sym (get_or-map f (x ∷ xs) i x d (omega (arith, below, within, n))) ∙ e ∙ get_or-map f (x ∷ xs) j x d (omega (arith, within, n)))

without_apart : (ids : List _) (rows : List Row) → AllPairs (λ one other. three_columns one ≢ three_columns other) rows → AllPairs (λ one other. three_columns one ≢ three_columns other) (without_all rows ids)
without_apart [] rows h = h
without_apart (i ∷ ids) rows h = without_apart ids (without_rowid i rows) (AllPairs-filter (λ one other. three_columns one ≢ three_columns other) _ rows h)

pub apart_without : (ids : List _) (rows : List Row) → AreApart (map three_columns rows) → AreApart (map three_columns (without_all rows ids))
apart_without ids rows h = map_apart three_columns (without_all rows ids) (without_apart ids rows (apart_map three_columns rows h))

pub apart_nothing : (rows : List Row) → rows ≡ [] → AreApart rows
apart_nothing rows none i j d below within = absurd (let n : length rows ≡ 0 = ap length none in omega (arith, within, n))

-- ---- two lists that differ from each other

pub apart_append : (xs ys : List Row) → AreApart xs → AreApart ys → ((x y : Row) → Contains xs x → Contains ys y → x ≢ y) → AreApart (xs ++ ys)
apart_append [] ys a b between = b
apart_append (x ∷ xs) ys a b between =
    AllPairs-cons Differ x (xs ++ ys)
    (all_both xs ys (λ k d low. a 0 (suc k) d (omega arith) (omega (arith, low)))
    (λ k d low. between x (get_or ys k d) (0, omega arith, refl) (here ys k d low)))
    (apart_append xs ys (λ i j d below within. a (suc i) (suc j) d (omega (arith, below)) (omega (arith, within))) b (λ y z in_xs in_ys. between y z (let r = in_xs in (suc r.0, omega (arith, r.1), r.2)) in_ys))
  where
    here : (zs : List Row) (k : ℕ) (d : Row) → k < length zs → Contains zs (get_or zs k d)
    here zs k d low = (k, low, free zs k (get_or zs k d) d low)
      where
        free : (ys : List Row) (i : ℕ) (d e : Row) → i < length ys → get_or ys i d ≡ get_or ys i e
        free [] i d e low = absurd (omega (arith, low))
        free (y ∷ ys) zero d e low = refl
        free (y ∷ ys) (suc i) d e low = free ys i d e (omega (arith, low))

    all_both : (us vs : List Row) → All (Differ x) us → All (Differ x) vs → All (Differ x) (us ++ vs)
    all_both [] vs p q k d low = q k d low
    all_both (u ∷ us) vs p q zero d low = p 0 d (omega arith)
    all_both (u ∷ us) vs p q (suc k) d low = all_both us vs (λ i e l. p (suc i) e (omega (arith, l))) q k d (omega (arith, low))
