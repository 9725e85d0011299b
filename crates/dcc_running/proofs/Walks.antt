-- Walks over shards.
use Rattle.std.proofs.Common.{◌≡◌, ℕ, ◌+◌, ◌<◌, ◌⊎◌, zero, suc, List, [], ◌∷◌, ◌++◌, length, length-append, get_or, append-nil, refl, sym, ap, subst, ◌∙◌, arith, inl, inr}
use Rattle.std.proofs.lemmas.List.{append_assoc, get_or_at, map-append}
use Rattle.std.specs.List.{AllZip, remove}
use Rattle.std.specs.Prelude.{map}

-- what stands at an index does so whatever is taken where there is none
pub at_index : {X : Type 0} (xs : List X) (i : ℕ) (one other : X) → i < length xs → get_or xs i one ≡ get_or xs i other
at_index [] i one other within = absurd (omega (arith, within))
at_index (x ∷ xs) zero one other within = refl
at_index (x ∷ xs) (suc i) one other within = at_index xs i one other (omega (arith, within))

pub below_or_last : (i n : ℕ) → i < n + 1 → (i < n) ⊎ (n ≡ i)
below_or_last zero zero below = inr refl
below_or_last zero (suc n) below = inl (omega arith)
below_or_last (suc i) zero below = absurd (omega (arith, below))
below_or_last (suc i) (suc n) below = elim (below_or_last i n (omega (arith, below))) [ inl low ↦ inl (omega (arith, low)) | inr last ↦ inr (ap suc last) ]

-- what holds of the items before one, and of it, holds of these
pub one_more : {X : Type 0} (P : X → Type 0) (xs : List X) (n : ℕ) (x : X) → n < length xs → x ≡ get_or xs n x → ((i : ℕ) (none : X) → i < n → P (get_or xs i none)) → P x
    → (i : ℕ) (none : X) → i < n + 1 → P (get_or xs i none)
one_more {X} P xs n x within is before here i none below = elim (below_or_last i n below) [
  | inl low ↦ before i none low
  | inr last ↦
      let Q : ℕ → Type 0 = λ j. P (get_or xs j none) in
      subst Q last (subst P (is ∙ at_index xs n x none within) here)
]

-- an item that moves from the front of a list to the end of another; together they are all items
pub moved_on : {X : Type 0} (front xs all : List X) (x : X) → 0 < length xs → x ≡ get_or xs 0 x → front ++ xs ≡ all → (front ++ x ∷ []) ++ remove xs 0 ≡ all
moved_on front [] all x some is whole = absurd (omega arith)
moved_on front (y ∷ ys) all x some is whole = append_assoc front (x ∷ []) ys ∙ (ap (λ z. front ++ z ∷ ys) is ∙ whole)

pub stands_next : {X : Type 0} (front xs all : List X) (x none : X) → 0 < length xs → x ≡ get_or xs 0 x → front ++ xs ≡ all
    → (length front < length all) × (get_or all (length front) none ≡ x)
stands_next front [] all x none some is whole = absurd (omega arith)
stands_next {X} front (y ∷ ys) all x none some is whole = (
  omega (arith, ap (λ (l : List X). length l) whole, length-append front (y ∷ ys)),
  subst (λ (l : List X). get_or l (length front) none ≡ x) whole (get_or_at front y ys none (length front) refl ∙ sym is),
)

pub all_moved : {X : Type 0} (front xs all : List X) → length xs ≡ 0 → front ++ xs ≡ all → front ≡ all
all_moved front [] all none whole = sym (append-nil front) ∙ whole
all_moved front (y ∷ ys) all none whole = absurd (omega (arith, none))

-- an item that moves from the front of a list, and of which the next item of another list is made
pub made_on : {X Y : Type 0} (f : Y → X) (front : List Y) (xs all : List X) (y : Y) (x : X) → 0 < length xs → x ≡ get_or xs 0 x → f y ≡ x → map f front ++ xs ≡ all
    → map f (front ++ y ∷ []) ++ remove xs 0 ≡ all
made_on {X} f front xs all y x some is made whole =
    ap (λ (l : List X). l ++ remove xs 0) (map-append f front (y ∷ []) ∙ ap (λ (z : X). map f front ++ z ∷ []) made) ∙ moved_on (map f front) xs all x some is whole

pub all_made : {X Y : Type 0} (f : Y → X) (front : List Y) (xs all : List X) → length xs ≡ 0 → map f front ++ xs ≡ all → map f front ≡ all
all_made f front xs all none whole = all_moved (map f front) xs all none whole

-- an item that moves from the front of a list, and is parted: a part of it goes to the end of another list
pub parted_on : {X Y : Type 0} (f : Y → X) (front : List X) (ys : List Y) (all : List X) (y : Y) (x : X) → 0 < length ys → y ≡ get_or ys 0 y → x ≡ f y
    → front ++ map f ys ≡ all → (front ++ x ∷ []) ++ map f (remove ys 0) ≡ all
parted_on f front [] all y x some is part whole = absurd (omega arith)
parted_on {X} f front (z ∷ zs) all y x some is part whole =
    append_assoc front (x ∷ []) (map f zs) ∙ (ap (λ (a : X). front ++ a ∷ map f zs) (part ∙ ap f is) ∙ whole)

pub all_parted : {X Y : Type 0} (f : Y → X) (front : List X) (ys : List Y) (all : List X) → length ys ≡ 0 → front ++ map f ys ≡ all → front ≡ all
all_parted f front [] all none whole = sym (append-nil front) ∙ whole
all_parted f front (z ∷ zs) all none whole = absurd (omega (arith, none))

-- two lists of which each item of one goes with an item of the other: their lengths, their first items, the others, and one pair more
pub as_long : {A B : Type 0} (P : A → B → Type 0) (xs : List A) (ys : List B) → AllZip P xs ys → length xs ≡ length ys
as_long P [] [] are = refl
as_long P [] (y ∷ ys) are = absurd are
as_long P (x ∷ xs) [] are = absurd are
as_long P (x ∷ xs) (y ∷ ys) are = omega (arith, as_long P xs ys are.1)

pub first_pair : {A B : Type 0} (P : A → B → Type 0) (xs : List A) (ys : List B) (x : A) (y : B) → AllZip P xs ys → 0 < length ys → x ≡ get_or xs 0 x → y ≡ get_or ys 0 y
    → P x y
first_pair P xs [] x y are some p q = absurd (omega (arith, some))
first_pair P [] (b ∷ ys) x y are some p q = absurd are
first_pair {A} {B} P (a ∷ xs) (b ∷ ys) x y are some p q = subst (λ (z : A). P z y) (sym p) (subst (λ (z : B). P a z) (sym q) are.0)

pub other_pairs : {A B : Type 0} (P : A → B → Type 0) (xs : List A) (ys : List B) → AllZip P xs ys → AllZip P (remove xs 0) (remove ys 0)
other_pairs P [] [] are = tt
other_pairs P [] (y ∷ ys) are = absurd are
other_pairs P (x ∷ xs) [] are = absurd are
other_pairs P (x ∷ xs) (y ∷ ys) are = are.1

pub more_pairs : {A B : Type 0} (P : A → B → Type 0) (xs : List A) (ys : List B) (x : A) (y : B) → AllZip P xs ys → P x y → AllZip P (xs ++ x ∷ []) (ys ++ y ∷ [])
more_pairs P [] [] x y are one = (one, tt)
more_pairs P [] (b ∷ ys) x y are one = absurd are
more_pairs P (a ∷ xs) [] x y are one = absurd are
more_pairs P (a ∷ xs) (b ∷ ys) x y are one = (are.0, more_pairs P xs ys x y are.1 one)
