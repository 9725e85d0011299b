-- What is found in a list and in a part of it.
use Rattle.std.proofs.Common.{◌≡◌, ℕ, Bool, true, false, List, [], ◌∷◌, refl, ap, ◌∙◌, inl, inr, filter, sum_by, Option, Some, None}
use Rattle.std.specs.Prelude.{find, filter_map}
use Rattle.std.specs.List.{cons_option, AllByRecursion}
use Rattle.std.proofs.lemmas.Bool.{cases_Bool}
use Rattle.std.proofs.lemmas.List.Sums.{sum_by-cons}

-- what passes the second test wherever it passes the first is found as before
pub find_kept : {X : Type 0} (p q : X → Bool) (xs : List X) → ((x : X) → p x ≡ true → q x ≡ true) → find p (filter q xs) ≡ find p xs
find_kept p q [] both = refl
find_kept p q (x ∷ xs) both =
    let rest = find_kept p q xs both in
    elim (cases_Bool (p x)) [
      | inl t ↦ let kept = both x t in rw (kept, t) refl
      | inr f ↦ elim (cases_Bool (q x)) [ inl t ↦ rw (t, f) rest | inr g ↦ rw (g, f) rest ]
    ]

-- and what never passes it is not found
pub find_dropped : {X : Type 0} (p q : X → Bool) (xs : List X) → ((x : X) → p x ≡ true → q x ≡ false) → find p (filter q xs) ≡ None
find_dropped p q [] apart = refl
find_dropped p q (x ∷ xs) apart =
    let rest = find_dropped p q xs apart in
    elim (cases_Bool (p x)) [
      | inl t ↦ let dropped = apart x t in rw dropped rest
      | inr f ↦ elim (cases_Bool (q x)) [ inl t ↦ rw (t, f) rest | inr g ↦ rw g rest ]
    ]

-- the same where it is so of each item
pub find_kept_all : {X : Type 0} (p q : X → Bool) (xs : List X) → AllByRecursion (λ x. p x ≡ true → q x ≡ true) xs → find p (filter q xs) ≡ find p xs
find_kept_all p q [] all = refl
find_kept_all p q (x ∷ xs) all =
    let rest = find_kept_all p q xs all.1 in
    elim (cases_Bool (p x)) [
      | inl t ↦ let kept = all.0 t in rw (kept, t) refl
      | inr f ↦ elim (cases_Bool (q x)) [ inl t ↦ rw (t, f) rest | inr g ↦ rw (g, f) rest ]
    ]

pub find_dropped_all : {X : Type 0} (p q : X → Bool) (xs : List X) → AllByRecursion (λ x. p x ≡ true → q x ≡ false) xs → find p (filter q xs) ≡ None
find_dropped_all p q [] all = refl
find_dropped_all p q (x ∷ xs) all =
    let rest = find_dropped_all p q xs all.1 in
    elim (cases_Bool (p x)) [
      | inl t ↦ let dropped = all.0 t in rw dropped rest
      | inr f ↦ elim (cases_Bool (q x)) [ inl t ↦ rw (t, f) rest | inr g ↦ rw g rest ]
    ]

pub find_nowhere : {X : Type 0} (p q : X → Bool) (xs : List X) → find p xs ≡ None → find p (filter q xs) ≡ None
find_nowhere p q [] none = refl
find_nowhere p q (x ∷ xs) none =
    elim (cases_Bool (p x)) [
      | inl t ↦ let found : find p (x ∷ xs) ≡ Some x = rw t refl in absurd cc
      | inr f ↦
          let rest = find_nowhere p q xs (rw f at none) in
          elim (cases_Bool (q x)) [ inl t ↦ rw (t, f) rest | inr g ↦ rw g rest ]
    ]

-- two filters, one after the other, where what passes the first passes the second just where it passes a third
pub filter_turned : {X : Type 0} (p q r : X → Bool) → ((x : X) → p x ≡ true → q x ≡ r x) → (xs : List X) → filter p (filter q xs) ≡ filter r (filter p xs)
filter_turned p q r same [] = refl
filter_turned p q r same (x ∷ xs) =
    let rest = filter_turned p q r same xs in
    elim (cases_Bool (p x)) [
      | inl t ↦
          let here = same x t in
          elim (cases_Bool (r x)) [ inl s ↦ (let yes = here ∙ s in rw (yes, t, s, rest) refl) | inr f ↦ (let no = here ∙ f in rw (no, t, f) rest) ]
      | inr f ↦ elim (cases_Bool (q x)) [ inl t ↦ rw (t, f) rest | inr g ↦ rw (g, f) rest ]
    ]

pub filter_true : {X : Type 0} (xs : List X) → filter (λ x. true) xs ≡ xs
filter_true [] = refl
filter_true (x ∷ xs) = ap (λ rest. x ∷ rest) (filter_true xs)

pub sums_alike : {X : Type 0} (f g : X → ℕ) → ((x : X) → f x ≡ g x) → (xs : List X) → sum_by f xs ≡ sum_by g xs
sums_alike f g same [] = refl
sums_alike f g same (x ∷ xs) = rw (sum_by-cons f x xs, sum_by-cons g x xs, same x, sums_alike f g same xs) refl

pub maps_alike : {X Y : Type 0} (f g : X → Option Y) → ((x : X) → f x ≡ g x) → (xs : List X) → filter_map f xs ≡ filter_map g xs
maps_alike f g same [] = refl
maps_alike f g same (x ∷ xs) = ap (λ o. cons_option o (filter_map f xs)) (same x) ∙ ap (cons_option (g x)) (maps_alike f g same xs)
