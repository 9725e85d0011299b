-- Names of sessions that differ, and how many of them pass a test.
use Rattle.std.proofs.Common.{◌≡◌, ℕ, ◌+◌, Bool, true, false, not, ◌&&◌, cond, List, [], ◌∷◌, length, refl, sym, ap, ◌∙◌, inl, inr, filter, count_by, bytes_eq, arith}
use Rattle.std.specs.List.{list_any}
use Rattle.std.proofs.lemmas.Bool.{cases_Bool, or_parts}
use Rattle.std.proofs.lemmas.List.Sums.{sum_by-cons}
use Rattle.std.proofs.lemmas.Map.Views.{any-filter_same}
use Rattle.std.proofs.lemmas.Slice.Eq.{bytes_eq-Decides}
use Rattle.dcc_model.specs.Sessions.{Sid}

pub same_sid : (a b : Sid) → bytes_eq a b ≡ true → a ≡ b
same_sid a b h = (bytes_eq-Decides a b).0 h

pub sid_is_own : (a : Sid) → bytes_eq a a ≡ true
sid_is_own a = (bytes_eq-Decides a a).1 refl

pub flipped : (a b : Sid) → bytes_eq a b ≡ bytes_eq b a
flipped a b =
    elim (cases_Bool (bytes_eq b a)) [
      | inl t ↦ let same : bytes_eq a b ≡ true = (bytes_eq-Decides a b).1 (sym (same_sid b a t)) in same ∙ sym t
      | inr f ↦ elim (cases_Bool (bytes_eq a b)) [
        | inl t ↦ let same : bytes_eq b a ≡ true = (bytes_eq-Decides b a).1 (sym (same_sid a b t)) in absurd cc
        | inr g ↦ g ∙ sym f
      ]
    ]

-- one of these has this name
abbrev pub is_among : Sid → List Sid → Bool
is_among sid names = list_any (λ name. bytes_eq name sid) names

abbrev pub AreDifferent : List Sid → Type 0
AreDifferent [] = Unit {0}
AreDifferent (name ∷ names) = (is_among name names ≡ false) × AreDifferent names

abbrev pub is_other : Sid → Sid → Bool
is_other sid name = not (bytes_eq name sid)

pub others_all : (sid : Sid) (names : List Sid) → is_among sid names ≡ false → filter (is_other sid) names ≡ names
others_all sid [] h = refl
others_all sid (name ∷ names) h =
    let parts = or_parts (bytes_eq name sid) (is_among sid names) h in
    rw (parts.0, others_all sid names parts.1) refl

any_less : (sid : Sid) (p : Sid → Bool) (names : List Sid) → is_among sid names ≡ false → is_among sid (filter p names) ≡ false
any_less sid p [] h = refl
any_less sid p (name ∷ names) h =
    let parts = or_parts (bytes_eq name sid) (is_among sid names) h in
    elim (cases_Bool (p name)) [ inl t ↦ rw (t, parts.0) (any_less sid p names parts.1) | inr f ↦ rw f (any_less sid p names parts.1) ]

pub different_still : (p : Sid → Bool) (names : List Sid) → AreDifferent names → AreDifferent (filter p names)
different_still p [] apart = tt
different_still p (name ∷ names) apart =
    elim (cases_Bool (p name)) [ inl t ↦ rw t (any_less name p names apart.0, different_still p names apart.1) | inr f ↦ rw f (different_still p names apart.1) ]

among_others : (sid own : Sid) (names : List Sid) → is_among sid (filter (is_other own) names) ≡ (not (bytes_eq sid own) && is_among sid names)
among_others sid own names =
    any-filter_same (λ (name : Sid). bytes_eq name sid) (is_other own) (not (bytes_eq sid own)) (λ name h. ap (λ (n : Sid). not (bytes_eq n own)) (same_sid name sid h)) names

abbrev pub weight : {X : Type 0} (test : X → Bool) → X → ℕ
weight test x = cond (test x) 1 0

-- a name that is among different ones is so once
once_out : (test : Sid → Bool) (sid : Sid) (names : List Sid) → AreDifferent names → is_among sid names ≡ true
    → count_by test names ≡ cond (test sid) 1 0 + count_by test (filter (is_other sid) names)
once_out test sid [] apart h = absurd cc
once_out test sid (name ∷ names) apart h =
    let more = sum_by-cons (λ (n : Sid). cond (test n) 1 0) name names in
    elim (cases_Bool (bytes_eq name sid)) [
      | inl t ↦
          let same = same_sid name sid t in
          let all = others_all sid names (ap (λ (n : Sid). is_among n names) (sym same) ∙ apart.0) in
          let here : weight test name ≡ weight test sid = ap (weight test) same in
          rw (t, all) (omega arith)
      | inr f ↦
          let rest = once_out test sid names apart.1 (rw f at h) in
          let later = sum_by-cons (λ (n : Sid). cond (test n) 1 0) name (filter (is_other sid) names) in
          rw f (omega arith)
    ]

both_false : (a b : Bool) → a ≡ false → b ≡ false → a ≡ b
both_false a b x y = x ∙ sym y

-- different names that are the same ones are as many, at each test
pub same_counts : (test : Sid → Bool) (xs ys : List Sid) → AreDifferent xs → AreDifferent ys → ((sid : Sid) → is_among sid xs ≡ is_among sid ys) → count_by test xs ≡ count_by test ys
same_counts test [] [] apart others same = refl
same_counts test [] (y ∷ ys) apart others same = let among : is_among y (y ∷ ys) ≡ true = rw (sid_is_own y) refl in let none = same y in absurd cc
same_counts test (x ∷ xs) ys apart others same =
    let here : is_among x (x ∷ xs) ≡ true = rw (sid_is_own x) refl in
    let out = once_out test x ys others (sym (same x) ∙ here) in
    let more = sum_by-cons (λ (n : Sid). cond (test n) 1 0) x xs in
    let rest = same_counts test xs (filter (is_other x) ys) apart.1 (different_still (is_other x) ys others)
    (λ sid.
    elim (cases_Bool (bytes_eq sid x)) [
      | inl t ↦
          let none : is_among sid xs ≡ false = ap (λ (n : Sid). is_among n xs) (same_sid sid x t) ∙ apart.0 in
          let gone : is_among sid (filter (is_other x) ys) ≡ false = among_others sid x ys ∙ rw t refl in
          both_false _ _ none gone
      | inr f ↦
          let other : bytes_eq x sid ≡ false = flipped x sid ∙ f in
          let kept : is_among sid (filter (is_other x) ys) ≡ is_among sid ys = among_others sid x ys ∙ rw f refl in
          let before : is_among sid (x ∷ xs) ≡ is_among sid xs = rw other refl in
          sym before ∙ same sid ∙ sym kept
    ]) in
    omega arith

pub all_counted : {X : Type 0} (xs : List X) → count_by (λ x. true) xs ≡ length xs
all_counted [] = refl
all_counted (x ∷ xs) = let more = sum_by-cons (λ y. 1) x xs in let rest = all_counted xs in omega arith
