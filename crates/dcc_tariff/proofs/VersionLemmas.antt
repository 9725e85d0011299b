-- What halving finds in an ordered list of versions.
use Rattle.std.proofs.Common.{◌≡◌, ℕ, zero, suc, ◌-◌, ◌<◌, ◌≤◌, Bool, true, false, not, ◌&&◌, ◌||◌, ◌==◌, nat_lt, nat_le, cond, List}
use Rattle.std.proofs.Common.{[], ◌∷◌, ◌++◌, length, take, drop, get_or, slice_get, filter, Option, Some, None, IsSome, option_map}
use Rattle.std.proofs.Common.{option_copied, Bor, refl, sym, ap, ◌∙◌, arith, inl, inr}
use Rattle.std.proofs.lemmas.Bool.{and_parts, and_from, cases_Bool, and_left, and_right, eq-eqb, eqb-true, ne_eqb, not-true, cond-true}
use Rattle.std.proofs.lemmas.Bool.{cond-false, false≢true}
use Rattle.std.proofs.lemmas.Bool.Decides.{nat_tests}
use Rattle.std.proofs.lemmas.List.{take-append-drop}
use Rattle.std.proofs.lemmas.Option.{same_Some}
use Rattle.std.specs.List.{list_all, list_any, find, AllWithin}
use Rattle.std.specs.List.Sorted.{IsPartitionedBy, IsPartitionPoint}
use Rattle.dcc_tariff.specs.Plans.{precedes, agrees, are_ordered, all_agree, is_of, has_begun, later, latest, kind_number}
use Rattle.dcc_tariff.specs.declared.tariff.UnitKind.{UnitKind}
use Rattle.dcc_tariff.specs.declared.tariff.UnitKind.TheVariants.{Octets, Time, Units}
use Rattle.dcc_tariff.specs.declared.version.Version.{Version}

-- ---- tests of all elements

list_all-weaker : {X : Type 0} (p q : X → Bool) → ((x : X) → p x ≡ true → q x ≡ true) → (xs : List X) → list_all p xs ≡ true
    → list_all q xs ≡ true
list_all-weaker p q weaker [] h = refl
list_all-weaker p q weaker (x ∷ xs) h =
    let (here, more) = and_parts (p x) (list_all p xs) h in
    and_from (q x) (list_all q xs) (weaker x here) (list_all-weaker p q weaker xs more)

list_all-both : {X : Type 0} (p q : X → Bool) (xs : List X) → list_all p xs ≡ true → list_all q xs ≡ true
    → list_all (λ x. p x && q x) xs ≡ true
list_all-both p q [] h g = refl
list_all-both p q (x ∷ xs) h g =
    let (here, more) = and_parts (p x) (list_all p xs) h in
    let (here', more') = and_parts (q x) (list_all q xs) g in
    and_from (p x && q x) (list_all (λ y. p y && q y) xs) (and_from (p x) (q x) here here') (list_all-both p q xs more more')

list_all-left : {X : Type 0} (p : X → Bool) (xs ys : List X) → list_all p (xs ++ ys) ≡ true → list_all p xs ≡ true
list_all-left p [] ys h = refl
list_all-left p (x ∷ xs) ys h =
    let (here, more) = and_parts (p x) (list_all p (xs ++ ys)) h in
    and_from (p x) (list_all p xs) here (list_all-left p xs ys more)

list_all-get_or : {X : Type 0} (p : X → Bool) (xs : List X) (i : ℕ) (d : X) → i < length xs → list_all p xs ≡ true
    → p (get_or xs i d) ≡ true
list_all-get_or p [] i d h all = absurd (omega arith)
list_all-get_or p (x ∷ xs) zero d h all = (and_parts (p x) (list_all p xs) all).0
list_all-get_or p (x ∷ xs) (suc i) d h all = list_all-get_or p xs i d (omega arith) (and_parts (p x) (list_all p xs) all).1

-- what holds below a place holds of the front, and what holds from it on of the back
front_passes : {X : Type 0} (p : X → Bool) (xs : List X) (n : ℕ) → AllWithin (λ x. p x ≡ true) xs 0 n → n ≤ length xs
    → list_all p (take n xs) ≡ true
front_passes p [] zero all h = refl
front_passes p [] (suc n) all h = absurd (omega arith)
front_passes p (x ∷ xs) zero all h = refl
front_passes p (x ∷ xs) (suc n) all h =
    and_from (p x) (list_all p (take n xs)) (all 0 x (omega arith) (omega arith))
    (front_passes p xs n (λ k d low high. all (suc k) d (omega arith) (omega arith)) (omega arith))

back_fails : {X : Type 0} (p : X → Bool) (xs : List X) (n : ℕ) → AllWithin (λ x. p x ≡ false) xs n (length xs)
    → list_all (λ x. not (p x)) (drop n xs) ≡ true
back_fails p [] zero all = refl
back_fails p [] (suc n) all = refl
back_fails p (x ∷ xs) zero all =
    let here : p x ≡ false = all 0 x (omega arith) (omega arith) in
    and_from (not (p x)) (list_all (λ y. not (p y)) xs) (rw here)
    (back_fails p xs zero (λ k d low high. all (suc k) d (omega arith) (omega arith)))
back_fails p (x ∷ xs) (suc n) all =
    back_fails p xs n (λ k d low high. all (suc k) d (omega arith) (omega arith))

-- ---- the order

-- a test that no version fails which stands before one that passes parts an ordered list
pub partitioned : (p : Version → Bool) → ((x y : Version) → precedes y x ≡ false → p y ≡ true → p x ≡ true)
    → (xs : List Version) → are_ordered xs ≡ true → IsPartitionedBy p xs
partitioned p steady [] ordered i j d up within h = absurd (omega arith)
partitioned p steady (x ∷ xs) ordered zero zero d up within h = h
partitioned p steady (x ∷ xs) ordered zero (suc j) d up within h =
    let (first, others) = and_parts (list_all (λ y. not (precedes y x)) xs) (are_ordered xs) ordered in
    steady x (get_or xs j d)
    (not-true (precedes (get_or xs j d) x) (list_all-get_or (λ y. not (precedes y x)) xs j d (omega arith) first)) h
partitioned p steady (x ∷ xs) ordered (suc i) zero d up within h = absurd (omega arith)
partitioned p steady (x ∷ xs) ordered (suc i) (suc j) d up within h =
    let (first, others) = and_parts (list_all (λ y. not (precedes y x)) xs) (are_ordered xs) ordered in
    partitioned p steady xs others i j d (omega arith) (omega arith) h

-- the tests that a group, or a group and a moment, is passed
abbrev pub is_below : ℕ → Version → Bool
is_below group version = nat_lt version.group group

abbrev pub is_up_to : ℕ → ℕ → Version → Bool
is_up_to group moment version = nat_lt version.group group || (version.group == group && nat_le version.from moment)

pub is_below_steady : (group : ℕ) (x y : Version) → precedes y x ≡ false → is_below group y ≡ true → is_below group x ≡ true
is_below_steady group x y order h = grind (arith, nat_tests)

pub is_up_to_steady : (group moment : ℕ) (x y : Version) → precedes y x ≡ false → is_up_to group moment y ≡ true
    → is_up_to group moment x ≡ true
is_up_to_steady group moment x y order h = grind (arith, nat_tests)

-- ---- the version that is found

-- the version, if it is one of the group
abbrev pub if_of : ℕ → Option Version → Option Version
if_of group None = None
if_of group (Some version) = cond (is_of group version) (Some version) None

find-none : {X : Type 0} (p : X → Bool) (xs : List X) → list_all (λ x. not (p x)) xs ≡ true → find p xs ≡ None
find-none p [] h = refl
find-none p (x ∷ xs) h =
    let (here, more) = and_parts (not (p x)) (list_all (λ y. not (p y)) xs) h in
    cond-false (p x) (Some x) (find p xs) (not-true (p x) here) ∙ find-none p xs more

filter-none : {X : Type 0} (p : X → Bool) (xs : List X) → list_all (λ x. not (p x)) xs ≡ true → filter p xs ≡ []
filter-none p [] h = refl
filter-none p (x ∷ xs) h =
    let (here, more) = and_parts (not (p x)) (list_all (λ y. not (p y)) xs) h in
    cond-false (p x) (x ∷ filter p xs) (filter p xs) (not-true (p x) here) ∙ filter-none p xs more

above_group : (group : ℕ) (x y : Version) → is_below group x ≡ false → is_of group x ≡ false → not (precedes y x) ≡ true
    → not (is_of group y) ≡ true
above_group group x y low other order = grind (arith, nat_tests)

below_group : (group : ℕ) (x : Version) → is_below group x ≡ true → is_of group x ≡ false
below_group group x h = grind (arith, nat_tests)

-- the first version that is not below the group is the group's first, if it is one of the group
find-at : (group : ℕ) (xs : List Version) (n : ℕ) → are_ordered xs ≡ true
    → IsPartitionPoint (λ x. is_below group x ≡ true) (λ x. is_below group x ≡ false) xs n
    → find (is_of group) xs ≡ if_of group (slice_get xs n)
find-at group [] n ordered point = refl
find-at group (x ∷ xs) zero ordered point =
    let (first, others) = and_parts (list_all (λ y. not (precedes y x)) xs) (are_ordered xs) ordered in
    elim (cases_Bool (is_of group x)) [
      | inl here ↦ cond-true (is_of group x) (Some x) (find (is_of group) xs) here ∙ sym (cond-true (is_of group x) (Some x) None here)
      | inr not_here ↦
          let high : is_below group x ≡ false = point.1 0 x (omega arith) (omega arith) in
          let none =
          list_all-weaker (λ y. not (precedes y x)) (λ y. not (is_of group y)) (λ y. above_group group x y high not_here) xs first in
          cond-false (is_of group x) (Some x) (find (is_of group) xs) not_here ∙ find-none (is_of group) xs none
          ∙ sym (cond-false (is_of group x) (Some x) None not_here)
    ]
find-at group (x ∷ xs) (suc n) ordered point =
    let (first, others) = and_parts (list_all (λ y. not (precedes y x)) xs) (are_ordered xs) ordered in
    let low : is_below group x ≡ true = point.0 0 x (omega arith) (omega arith) in
    cond-false (is_of group x) (Some x) (find (is_of group) xs) (below_group group x low)
    ∙ find-at group xs n others
    (λ k d from to. point.0 (suc k) d (omega arith) (omega arith), λ k d from to. point.1 (suc k) d (omega arith) (omega arith))

slice_get-drop : {X : Type 0} (xs : List X) (n : ℕ) → n ≤ length xs → slice_get (take (length xs - n) (drop n xs)) 0 ≡ slice_get xs n
slice_get-drop [] zero h = refl
slice_get-drop [] (suc n) h = absurd (omega arith)
slice_get-drop (x ∷ xs) zero h = let whole : suc (length xs) - 0 ≡ suc (length xs) = omega arith in rw whole
slice_get-drop (x ∷ xs) (suc n) h =
    let shorter : suc (length xs) - suc n ≡ length xs - n = omega arith in rw shorter (slice_get-drop xs n (omega arith))

pub find-is : (group : ℕ) (xs : List Version) (n : ℕ) → are_ordered xs ≡ true → n ≤ length xs
    → IsPartitionPoint (λ x. is_below group x ≡ true) (λ x. is_below group x ≡ false) xs n
    → find (is_of group) xs ≡ if_of group (slice_get (take (length xs - n) (drop n xs)) 0)
find-is group xs n ordered within point = find-at group xs n ordered point ∙ ap (if_of group) (sym (slice_get-drop xs n within))

-- what an `Option` that was read says of the version that was found
pub found_none : (group : ℕ) (read : Option (Bor Version)) (found : Option Version) → option_copied read ≡ found → read ≡ None
    → None ≡ if_of group found
found_none group read found value none = ap (if_of group) (ap option_copied (sym none) ∙ value)

pub found_of : (group : ℕ) (read : Option (Bor Version)) (found : Option Version) (version : Bor Version)
    → option_copied read ≡ found → read ≡ Some version
    → version.now.group ≡ group → Some version.now ≡ if_of group found
found_of group read found version value some same =
    let is : Some version.now ≡ found = ap option_copied (sym some) ∙ value in
    sym (cond-true (is_of group version.now) (Some version.now) None (eq-eqb _ _ same)) ∙ ap (if_of group) is

pub found_other : (group : ℕ) (read : Option (Bor Version)) (found : Option Version) (version : Bor Version)
    → option_copied read ≡ found → read ≡ Some version
    → (version.now.group ≡ group → ⊥) → None ≡ if_of group found
found_other group read found version value some other =
    let is : Some version.now ≡ found = ap option_copied (sym some) ∙ value in
    sym (cond-false (is_of group version.now) (Some version.now) None (ne_eqb _ _ other)) ∙ ap (if_of group) is

-- the last of a list
abbrev pub last_of : {X : Type 0} → List X → Option X
last_of [] = None
last_of (x ∷ []) = Some x
last_of (x ∷ y ∷ ys) = last_of (y ∷ ys)

pub slice_get-last : {X : Type 0} (xs : List X) → slice_get xs (length xs - 1) ≡ last_of xs
slice_get-last [] = refl
slice_get-last (x ∷ []) = refl
slice_get-last (x ∷ y ∷ ys) =
    let two : suc (suc (length ys)) - 1 ≡ suc (length ys) = omega arith in
    let one : suc (length ys) - 1 ≡ length ys = omega arith in
    rw two (rw one at (slice_get-last (y ∷ ys)))

-- the last of a list passes what all pass
last_passes : {X : Type 0} (p : X → Bool) (x : X) (xs : List X) → list_all p (x ∷ xs) ≡ true
    → (last : X) × (last_of (x ∷ xs) ≡ Some last) × (p last ≡ true)
last_passes p x [] h = (x, refl, (and_parts (p x) true h).0)
last_passes p x (y ∷ ys) h = last_passes p y ys (and_parts (p x) (list_all p (y ∷ ys)) h).1

begun_is_up_to : (group moment : ℕ) (x : Version) → not (is_up_to group moment x) ≡ true → not (has_begun group moment x) ≡ true
begun_is_up_to group moment x h = grind (arith, nat_tests)

up_to_has_begun : (group moment : ℕ) (x : Version) → is_up_to group moment x ≡ true → has_begun group moment x ≡ is_of group x
up_to_has_begun group moment x h = grind (arith, nat_tests)

later_of_group : (group moment : ℕ) (x last : Version) → is_up_to group moment last ≡ true → not (precedes last x) ≡ true
    → is_of group x ≡ true
    → (is_of group last ≡ true) × (nat_le x.from last.from ≡ true)
later_of_group group moment x last h order here = (grind (arith, nat_tests), grind (arith, nat_tests))

-- the last of those up to the moment is the latest, if it is one of the group
latest-front : (group moment : ℕ) (front back : List Version) → list_all (is_up_to group moment) front ≡ true
    → list_all (λ x. not (is_up_to group moment x)) back ≡ true → are_ordered front ≡ true
    → latest (filter (has_begun group moment) (front ++ back)) ≡ if_of group (last_of front)
latest-front group moment [] back passed after ordered =
    rw (filter-none (has_begun group moment) back
    (list_all-weaker (λ x. not (is_up_to group moment x)) (λ x. not (has_begun group moment x)) (begun_is_up_to group moment) back after))
latest-front group moment (x ∷ []) back passed after ordered =
    let none = latest-front group moment [] back refl after refl in
    let (here, more) = and_parts (is_up_to group moment x) true passed in
    elim (cases_Bool (is_of group x)) [
      | inl same ↦
          let begun = up_to_has_begun group moment x here ∙ same in
          rw (begun, same, none)
      | inr other ↦
          let begun = up_to_has_begun group moment x here ∙ other in
          rw (begun, other, none)
    ]
latest-front group moment (x ∷ y ∷ ys) back passed after ordered =
    let (here, more) = and_parts (is_up_to group moment x) (list_all (is_up_to group moment) (y ∷ ys)) passed in
    let (first, others) = and_parts (list_all (λ z. not (precedes z x)) (y ∷ ys)) (are_ordered (y ∷ ys)) ordered in
    let rest = latest-front group moment (y ∷ ys) back more after others in
    elim (cases_Bool (is_of group x)) [
      | inl same ↦
          let begun = up_to_has_begun group moment x here ∙ same in
          let both = list_all-both (is_up_to group moment) (λ z. not (precedes z x)) (y ∷ ys) more first in
          let (last, is_last, passes) = last_passes (λ z. is_up_to group moment z && not (precedes z x)) y ys both in
          let (up_to, after_x) = and_parts (is_up_to group moment last) (not (precedes last x)) passes in
          let (of_group, no_later) = later_of_group group moment x last up_to after_x same in
          let rest' : latest (filter (has_begun group moment) ((y ∷ ys) ++ back)) ≡ Some last = rest ∙ rw (is_last, of_group) in
          ap latest (cond-true (has_begun group moment x) (x ∷ filter (has_begun group moment) ((y ∷ ys) ++ back))
          (filter (has_begun group moment) ((y ∷ ys) ++ back)) begun)
          ∙ ap (later x) rest' ∙ rw (is_last, of_group, no_later)
      | inr other ↦
          let begun = up_to_has_begun group moment x here ∙ other in
          ap latest (cond-false (has_begun group moment x) (x ∷ filter (has_begun group moment) ((y ∷ ys) ++ back))
          (filter (has_begun group moment) ((y ∷ ys) ++ back)) begun)
          ∙ rest
    ]

ordered_left : (xs ys : List Version) → are_ordered (xs ++ ys) ≡ true → are_ordered xs ≡ true
ordered_left [] ys h = refl
ordered_left (x ∷ xs) ys h =
    let (first, others) = and_parts (list_all (λ z. not (precedes z x)) (xs ++ ys)) (are_ordered (xs ++ ys)) h in
    and_from (list_all (λ z. not (precedes z x)) xs) (are_ordered xs) (list_all-left (λ z. not (precedes z x)) xs ys first)
    (ordered_left xs ys others)

pub latest-is : (group moment : ℕ) (xs : List Version) (n : ℕ) → are_ordered xs ≡ true → n ≤ length xs
    → IsPartitionPoint (λ x. is_up_to group moment x ≡ true) (λ x. is_up_to group moment x ≡ false) xs n
    → latest (filter (has_begun group moment) xs) ≡ if_of group (slice_get (take n xs) (length (take n xs) - 1))
latest-is group moment xs n ordered within point =
    let whole = take-append-drop n xs in
    let front_ordered = ordered_left (take n xs) (drop n xs) (rw whole ordered) in
    ap (λ ys. latest (filter (has_begun group moment) ys)) (sym whole)
    ∙ latest-front group moment (take n xs) (drop n xs) (front_passes (is_up_to group moment) xs n point.0 within)
    (back_fails (is_up_to group moment) xs n point.1) front_ordered
    ∙ ap (if_of group) (sym (slice_get-last (take n xs)))

-- ---- neighbours that agree

-- whether each two neighbours do
abbrev pub neighbours_agree : List Version → Bool
neighbours_agree [] = true
neighbours_agree (x ∷ []) = true
neighbours_agree (x ∷ y ∷ ys) = agrees x y && neighbours_agree (y ∷ ys)

agrees_on : (x y z : Version) → not (precedes y x) ≡ true → not (precedes z y) ≡ true → agrees x y ≡ true → agrees y z ≡ true
    → agrees x z ≡ true
agrees_on x y z xy yz first second = grind (arith, nat_tests)

agrees_with_all : (x y : Version) (zs : List Version) → not (precedes y x) ≡ true → agrees x y ≡ true
    → list_all (λ z. not (precedes z y)) zs ≡ true
    → list_all (agrees y) zs ≡ true → list_all (agrees x) zs ≡ true
agrees_with_all x y zs xy first yz second =
    list_all-weaker (λ z. not (precedes z y) && agrees y z) (agrees x)
    (λ z h. let (after, agree) = and_parts (not (precedes z y)) (agrees y z) h in agrees_on x y z xy after first agree) zs
    (list_all-both (λ z. not (precedes z y)) (agrees y) zs yz second)

-- in an ordered list that is as much as that each two do
pub all_agree-is : (xs : List Version) → are_ordered xs ≡ true → neighbours_agree xs ≡ all_agree xs
all_agree-is [] ordered = refl
all_agree-is (x ∷ []) ordered = refl
all_agree-is (x ∷ y ∷ ys) ordered =
    let (first, others) = and_parts (list_all (λ z. not (precedes z x)) (y ∷ ys)) (are_ordered (y ∷ ys)) ordered in
    let (xy, xys) = and_parts (not (precedes y x)) (list_all (λ z. not (precedes z x)) ys) first in
    let (yys, ordered_ys) = and_parts (list_all (λ z. not (precedes z y)) ys) (are_ordered ys) others in
    let rest = all_agree-is (y ∷ ys) others in
    elim (cases_Bool (agrees x y)) [
      | inl here ↦ elim (cases_Bool (all_agree (y ∷ ys))) [
        | inl agreed ↦
            let (yz, more) = and_parts (list_all (agrees y) ys) (all_agree ys) agreed in
            rw (here, rest, agreed, agrees_with_all x y ys xy here yys yz)
        | inr not_agreed ↦ rw (here, rest, not_agreed) (sym (and_right (list_all (agrees x) ys) false refl))
      ]
      | inr not_here ↦ rw (not_here)
    ]

-- the neighbours from a place on, before a version of that place
pub neighbours_agree-drop : (xs : List Version) (i : ℕ) (d e : Version) → suc i < length xs
    → neighbours_agree (drop i xs) ≡ (agrees (get_or xs i d) (get_or xs (suc i) e) && neighbours_agree (drop (suc i) xs))
neighbours_agree-drop [] i d e h = absurd (omega arith)
neighbours_agree-drop (x ∷ []) i d e h = absurd (omega arith)
neighbours_agree-drop (x ∷ y ∷ ys) zero d e h = refl
neighbours_agree-drop (x ∷ y ∷ ys) (suc i) d e h = neighbours_agree-drop (y ∷ ys) i d e (omega arith)

pub neighbours_agree-last : (xs : List Version) (i : ℕ) → length xs ≤ suc i → neighbours_agree (drop i xs) ≡ true
neighbours_agree-last [] zero h = refl
neighbours_agree-last [] (suc i) h = refl
neighbours_agree-last (x ∷ []) zero h = refl
neighbours_agree-last (x ∷ y ∷ ys) zero h = absurd (omega arith)
neighbours_agree-last (x ∷ xs) (suc i) h = neighbours_agree-last xs i (omega arith)

pub neighbours_agree-step : (xs : List Version) (i : ℕ) (a b : Version) → 1 ≤ i → i < length xs → a ≡ get_or xs (i - 1) a
    → b ≡ get_or xs i b
    → neighbours_agree (drop (i - 1) xs) ≡ (agrees a b && neighbours_agree (drop i xs))
neighbours_agree-step xs i a b some within at_a at_b =
    let next : suc (i - 1) ≡ i = omega arith in
    let step = neighbours_agree-drop xs (i - 1) a b (omega arith) in
    rw next at step ∙ ap (λ v. agrees v (get_or xs i b) && neighbours_agree (drop i xs)) (sym at_a)
    ∙ ap (λ v. agrees a v && neighbours_agree (drop i xs)) (sym at_b)

-- ---- one unit for a group

same_kind : (a b : UnitKind) → kind_number a ≡ kind_number b → a ≡ b
same_kind Octets Octets h = refl
same_kind Octets Time h = absurd (omega arith)
same_kind Octets Units h = absurd (omega arith)
same_kind Time Octets h = absurd (omega arith)
same_kind Time Time h = refl
same_kind Time Units h = absurd (omega arith)
same_kind Units Octets h = absurd (omega arith)
same_kind Units Time h = absurd (omega arith)
same_kind Units Units h = refl

agreed_kind : (group : ℕ) (x y : Version) → is_of group x ≡ true → is_of group y ≡ true → agrees x y ≡ true
    → kind_number x.unit ≡ kind_number y.unit
agreed_kind group x y first second agree = grind (arith, nat_tests)

-- the later of two is one of them
later_passes : (q : Version → Bool) (x : Version) (rest : Option Version) (v : Version) → q x ≡ true
    → ((w : Version) → rest ≡ Some w → q w ≡ true)
    → later x rest ≡ Some v → q v ≡ true
later_passes q x None v here more found = let same = same_Some x v found in rw (← same) here
later_passes q x (Some w) v here more found =
    elim (cases_Bool (nat_le x.from w.from)) [
      | inl after ↦
          let same = same_Some w v (sym (cond-true (nat_le x.from w.from) (Some w) (Some x) after) ∙ found) in rw (← same) (more w refl)
      | inr before ↦ let same = same_Some x v (sym (cond-false (nat_le x.from w.from) (Some w) (Some x) before) ∙ found) in rw (← same) here
    ]

latest_passes : (q : Version → Bool) (xs : List Version) (v : Version) → list_all q xs ≡ true → latest xs ≡ Some v → q v ≡ true
latest_passes q [] v all found = cc
latest_passes q (x ∷ xs) v all found =
    let (here, more) = and_parts (q x) (list_all q xs) all in
    later_passes q x (latest xs) v here (λ w rest. latest_passes q xs w more rest) found

list_all-filter : (q p : Version → Bool) (xs : List Version) → list_all q xs ≡ true → list_all (λ x. q x && p x) (filter p xs) ≡ true
list_all-filter q p [] all = refl
list_all-filter q p (x ∷ xs) all =
    let (here, more) = and_parts (q x) (list_all q xs) all in
    elim (cases_Bool (p x)) [
      | inl passes ↦ ap (list_all (λ y. q y && p y)) (cond-true (p x) (x ∷ filter p xs) (filter p xs) passes)
          ∙ and_from (q x && p x) (list_all (λ y. q y && p y) (filter p xs)) (and_from (q x) (p x) here passes)
          (list_all-filter q p xs more)
      | inr fails ↦ ap (list_all (λ y. q y && p y)) (cond-false (p x) (x ∷ filter p xs) (filter p xs) fails) ∙ list_all-filter q p xs more
    ]

-- the version that holds at a moment has the unit of its group
pub unit-latest : (group moment : ℕ) (xs : List Version) (v : Version) → all_agree xs ≡ true
    → latest (filter (has_begun group moment) xs) ≡ Some v
    → option_map (λ (x : Version). x.unit) (find (is_of group) xs) ≡ Some v.unit
unit-latest group moment [] v agree found = cc
unit-latest group moment (x ∷ xs) v agree found =
    let (agrees_x, others) = and_parts (list_all (agrees x) xs) (all_agree xs) agree in
    let all = list_all-filter (λ y. agrees x y) (has_begun group moment) xs agrees_x in
    let same_unit = λ (w : Version) (found' : latest (filter (has_begun group moment) xs) ≡ Some w) (here : is_of group x ≡ true).
    let passes = latest_passes (λ y. agrees x y && has_begun group moment y) (filter (has_begun group moment) xs) w all found' in
    let (agree', begun) = and_parts (agrees x w) (has_begun group moment w) passes in
    let (of_group, from_before) = and_parts (is_of group w) (nat_le w.from moment) begun in
    agreed_kind group x w here of_group agree' in
    let skips = λ (fails : has_begun group moment x ≡ false).
    sym (ap latest (cond-false (has_begun group moment x) (x ∷ filter (has_begun group moment) xs)
    (filter (has_begun group moment) xs) fails)) ∙ found in
    elim (cases_Bool (is_of group x)) [
      | inl here ↦
          let equal : kind_number x.unit ≡ kind_number v.unit = elim (cases_Bool (has_begun group moment x)) [
            | inl begun ↦
                let taken =
                sym (ap latest (cond-true (has_begun group moment x) (x ∷ filter (has_begun group moment) xs)
                (filter (has_begun group moment) xs) begun)) ∙ found in
                eqb-true _ _ (later_passes (λ w. kind_number x.unit == kind_number w.unit) x (latest (filter (has_begun group moment) xs)) v
                (eq-eqb (kind_number x.unit) (kind_number x.unit) refl)
                (λ w rest. eq-eqb (kind_number x.unit) (kind_number w.unit) (same_unit w rest here)) taken)
            | inr not_begun ↦ same_unit v (skips not_begun) here
          ] in
          ap (option_map (λ (y : Version). y.unit)) (cond-true (is_of group x) (Some x) (find (is_of group) xs) here)
          ∙ ap Some (same_kind x.unit v.unit equal)
      | inr other ↦
          ap (option_map (λ (y : Version). y.unit)) (cond-false (is_of group x) (Some x) (find (is_of group) xs) other)
          ∙ unit-latest group moment xs v others (skips (and_left (is_of group x) (nat_le x.from moment) other))
    ]

-- a group that some version is of has a unit
pub unit-some : (group : ℕ) (xs : List Version) → list_any (is_of group) xs ≡ true
    → IsSome (option_map (λ (x : Version). x.unit) (find (is_of group) xs))
unit-some group [] some = absurd (false≢true some)
unit-some group (x ∷ xs) some =
    elim (cases_Bool (is_of group x)) [
      | inl here ↦ rw (cond-true (is_of group x) (Some x) (find (is_of group) xs) here)
      | inr other ↦ rw (cond-false (is_of group x) (Some x) (find (is_of group) xs) other) (unit-some group xs (rw other at some))
    ]
