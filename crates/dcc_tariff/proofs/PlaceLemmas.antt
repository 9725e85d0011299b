-- A version that has begun, before one that hasn't, is the one that holds.
use Rattle.std.proofs.Common.{◌≡◌, ℕ, zero, suc, ◌+◌, ◌-◌, nat_lt, ◌<◌, ◌≤◌, true, false, List, [], ◌∷◌, length, take, get_or, slice_get, filter, Some, None, sym, ap, refl, ◌∙◌, arith, inl, inr}
use Rattle.std.proofs.lemmas.Bool.{cond-true, cases_Bool, false≢true}
use Rattle.std.proofs.lemmas.Bool.Decides.{nat_tests}
use Rattle.std.proofs.lemmas.List.{get_or_default, length-take-le}
use Rattle.std.proofs.lemmas.Option.{slice_get_read}
use Rattle.dcc_tariff.specs.Plans.{are_ordered, is_of, has_begun, latest}
use Rattle.dcc_tariff.specs.declared.version.Version.{Version}
use Rattle.dcc_tariff.proofs.VersionLemmas.{partitioned, is_below, is_below_steady, is_up_to, is_up_to_steady, if_of, latest-is}

slice_get-take : {X : Type 0} (xs : List X) (i : ℕ) → slice_get (take (suc i) xs) i ≡ slice_get xs i
slice_get-take [] i = refl
slice_get-take (x ∷ xs) zero = refl
slice_get-take (x ∷ xs) (suc i) = slice_get-take xs i

begun_up_to : (group moment : ℕ) (x : Version) → has_begun group moment x ≡ true → is_up_to group moment x ≡ true
begun_up_to group moment x h = grind (arith, nat_tests)

begun_of : (group moment : ℕ) (x : Version) → has_begun group moment x ≡ true → is_of group x ≡ true
begun_of group moment x h = grind (arith, nat_tests)

-- what is passed and hasn't begun is of a group below
below_of : (group moment : ℕ) (x : Version) → is_up_to group moment x ≡ true → has_begun group moment x ≡ false → is_below group x ≡ true
below_of group moment x up not_begun = grind (arith, nat_tests)

not_below : (group moment : ℕ) (x : Version) → has_begun group moment x ≡ true → is_below group x ≡ false
not_below group moment x begun = grind (arith, nat_tests)

-- what stands behind a version that has begun hasn't, where the next one hasn't
pub at_place : (group moment : ℕ) (xs : List Version) (i : ℕ) (v : Version) → are_ordered xs ≡ true → i < length xs → v ≡ get_or xs i v
    → has_begun group moment v ≡ true
    → ((w : Version) → suc i < length xs → w ≡ get_or xs (suc i) w → has_begun group moment w ≡ false)
    → latest (filter (has_begun group moment) xs) ≡ Some v
at_place group moment xs i v ordered within at_v begun behind =
    let p = is_up_to group moment in
    let parts = partitioned p (is_up_to_steady group moment) xs ordered in
    let here = λ (d : Version). get_or_default xs i d v within ∙ sym at_v in
    let low : (k : ℕ) (d : Version) → 0 ≤ k → k < suc i → p (get_or xs k d) ≡ true =
    λ k d _ below. parts k i d (omega arith) within (ap p (here d) ∙ begun_up_to group moment v begun) in
    let next : (d : Version) → suc i < length xs → p (get_or xs (suc i) d) ≡ false =
    λ d inside.
    let w = get_or xs (suc i) d in
    let not_begun = behind w inside (get_or_default xs (suc i) d w inside) in
    elim (cases_Bool (p w)) [
      | inl up ↦
          let low_v = partitioned (is_below group) (is_below_steady group) xs ordered i (suc i) d (omega arith) inside
          (below_of group moment w up not_begun) in
          absurd (false≢true (sym (not_below group moment v begun) ∙ sym (ap (is_below group) (here d)) ∙ low_v))
      | inr past ↦ past
    ] in
    let high : (k : ℕ) (d : Version) → suc i ≤ k → k < length xs → p (get_or xs k d) ≡ false =
    λ k d above inside. elim (cases_Bool (p (get_or xs k d))) [
      | inl up ↦ absurd (false≢true (sym (next d (omega arith)) ∙ parts (suc i) k d above inside up))
      | inr past ↦ past
    ] in
    let all = latest-is group moment xs (suc i) ordered (omega arith) (low, high) in
    let size : length (take (suc i) xs) ≡ suc i = length-take-le (suc i) xs (omega arith) in
    let one_less : suc i - 1 ≡ i = omega arith in
    let found : slice_get (take (suc i) xs) (length (take (suc i) xs) - 1) ≡ Some v =
    ap (λ (n : ℕ). slice_get (take (suc i) xs) (n - 1)) size ∙ ap (slice_get (take (suc i) xs)) one_less
    ∙ slice_get-take xs i ∙ slice_get_read xs (length xs) i v refl within at_v in
    all ∙ ap (if_of group) found ∙ cond-true (is_of group v) (Some v) None (begun_of group moment v begun)

-- the same of what is read at a place: behind it stands nothing
pub at_end : (group moment : ℕ) (xs : List Version) (i : ℕ) (v : Version) → are_ordered xs ≡ true → true ≡ nat_lt i (length xs)
    → v ≡ get_or xs i v → true ≡ has_begun group moment v → false ≡ nat_lt (i + 1) (length xs)
    → latest (filter (has_begun group moment) xs) ≡ Some v
at_end group moment xs i v ordered within at_v begun end =
    let inside : i < length xs = grind (arith, nat_tests) in
    let none : length xs ≤ i + 1 = grind (arith, nat_tests) in
    at_place group moment xs i v ordered inside at_v (sym begun) (λ w more at_w. absurd (omega arith))

-- or a version that hasn't begun
pub before : (group moment : ℕ) (xs : List Version) (i : ℕ) (v next : Version) → are_ordered xs ≡ true → true ≡ nat_lt i (length xs)
    → v ≡ get_or xs i v → true ≡ has_begun group moment v
    → next ≡ get_or xs (i + 1) next → false ≡ has_begun group moment next
    → latest (filter (has_begun group moment) xs) ≡ Some v
before group moment xs i v next ordered within at_v begun at_next not_begun =
    let inside : i < length xs = grind (arith, nat_tests) in
    let one_more : i + 1 ≡ suc i = omega arith in
    at_place group moment xs i v ordered inside at_v (sym begun)
    (λ w more at_w. ap (has_begun group moment) (at_w ∙ get_or_default xs (suc i) w next more
    ∙ ap (λ (k : ℕ). get_or xs k next) (sym one_more) ∙ sym at_next) ∙ sym not_begun)
