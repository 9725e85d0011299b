-- One row less, or one more, and the first of the rows.
use Rattle.std.proofs.Common.{◌≡◌, ◌≤◌, ◌<◌, ◌+◌, ℕ, zero, suc, true, false, not, cond, List, [], ◌∷◌, length, get_or, drop, nat_le, Option, Some, None, refl, sym, ap, ◌∙◌, arith, inl, inr}
use Rattle.std.specs.Prelude.{filter, is_none, position, remove, slice_get, unwrap_or, nat_lt, IfSome}
use Rattle.std.specs.List.{insert, position_or_len}
use Rattle.std.specs.List.Sorted.{IsNonDecreasingBy, IsPartitionedBy}
use Rattle.std.specs.Cmp.Lexicographic.{nat_list_eq_equiv}
use Rattle.std.proofs.lemmas.Bool.{cases_Bool, and_parts, and_from}
use Rattle.std.proofs.lemmas.Bool.Decides.{nat_tests}
use Rattle.dcc_expiry.specs.Deadlines.{deadline_in, later_than, same_session}
use Rattle.dcc_expiry.specs.declared.row.Row.{Row}
use Rattle.dcc_expiry.specs.inner.Rows.{are_once}

-- Of two sessions that are one, one is a third exactly where the other is.
alike : (a b c : List ℕ) → same_session a b ≡ true → same_session a c ≡ same_session b c
alike a b c h = nat_list_eq_equiv.congr a b c h

turned : (a b : List ℕ) → same_session a b ≡ same_session b a
turned a b = nat_list_eq_equiv.symm a b

-- a row of another session stays in front
past : (row : Row) (rows : List Row) (sid : List ℕ) → same_session row.session sid ≡ false → deadline_in (row ∷ rows) sid ≡ deadline_in rows sid
past row rows sid h = rw h refl

head_apart : (row : Row) (rows : List Row) (sid : List ℕ)
    → deadline_in (row ∷ rows) sid ≡ None → (same_session row.session sid ≡ false) × (deadline_in rows sid ≡ None)
head_apart row rows sid none = grind (arith, none)

-- where the test passes nowhere, all stay
pub nowhere : (rows : List Row) (sid : List ℕ) → position (λ (row : Row). same_session row.session sid) rows ≡ None
    → filter (λ row. not (same_session row.session sid)) rows ≡ rows
nowhere rows sid none = stays rows sid (elim (cases_Bool (nat_lt (position_or_len (λ (row : Row). same_session row.session sid) rows) (length rows))) [
  | inl t ↦ let some : Some (position_or_len (λ (row : Row). same_session row.session sid) rows) ≡ None = rw t at none in absurd cc
  | inr f ↦ grind (arith, nat_tests, f)
])
  where
    stays : (rows : List Row) (sid : List ℕ) → length rows ≤ position_or_len (λ (row : Row). same_session row.session sid) rows
        → filter (λ row. not (same_session row.session sid)) rows ≡ rows
    stays [] sid h = refl
    stays (row ∷ rows) sid h =
        elim (cases_Bool (same_session row.session sid)) [
          | inl t ↦ let short : length (row ∷ rows) ≤ 0 = rw t at h in absurd (omega arith)
          | inr f ↦
              let short : length (row ∷ rows) ≤ 1 + position_or_len (λ (row : Row). same_session row.session sid) rows = rw f at h in
              rw f (ap (λ (rest : List Row). row ∷ rest) (stays rows sid (omega arith)))
        ]

-- no row behind a session's own is its own
others_stay : (rows : List Row) (own sid : List ℕ) → same_session own sid ≡ true → deadline_in rows own ≡ None
    → filter (λ row. not (same_session row.session sid)) rows ≡ rows
others_stay [] own sid same none = refl
others_stay (row ∷ rows) own sid same none =
    let apart = head_apart row rows own none in
    let e : same_session row.session own ≡ same_session row.session sid = turned row.session own ∙ alike own sid row.session same ∙ turned sid row.session in
    let other : same_session row.session sid ≡ false = sym e ∙ apart.0 in
    rw other (ap (λ (rest : List Row). row ∷ rest) (others_stay rows own sid same apart.1))

is_none_is : (deadline : Option ℕ) → is_none deadline ≡ true → deadline ≡ None
is_none_is None h = refl
is_none_is (Some until) h = absurd cc

-- so without the first that passes, those that pass are gone
pub without_at : (rows : List Row) (sid : List ℕ) (at : ℕ) (d : Row) → at < length rows → same_session (get_or rows at d).session sid ≡ true
    → ((k : ℕ) → k < at → same_session (get_or rows k d).session sid ≡ false) → are_once rows ≡ true
    → remove rows at ≡ filter (λ row. not (same_session row.session sid)) rows
without_at [] sid at d below here before once = absurd (omega (arith, below))
without_at (row ∷ rows) sid zero d below here before once =
    let parts = and_parts (is_none (deadline_in rows row.session)) (are_once rows) once in
    rw here (sym (others_stay rows row.session sid here (is_none_is (deadline_in rows row.session) parts.0)))
without_at (row ∷ rows) sid (suc at) d below here before once =
    let parts = and_parts (is_none (deadline_in rows row.session)) (are_once rows) once in
    let first = before 0 (omega arith) in
    rw first (ap (λ (rest : List Row). row ∷ rest) (without_at rows sid at d (omega arith) here (λ k lt. before (suc k) (omega arith)) parts.1))

-- what a filter that lets a session's rows go leaves
pub deadline_without : (rows : List Row) (sid q : List ℕ)
    → deadline_in (filter (λ row. not (same_session row.session sid)) rows) q ≡ cond (same_session sid q) None (deadline_in rows q)
deadline_without [] sid q = elim (cases_Bool (same_session sid q)) [ inl t ↦ rw t refl | inr f ↦ rw f refl ]
deadline_without (row ∷ rows) sid q =
    let later = deadline_without rows sid q in
    elim (cases_Bool (same_session row.session sid)) [
      | inl own ↦ (let e = alike row.session sid q own in grind (arith, later, own, e))
      | inr other ↦ elim (cases_Bool (same_session row.session q)) [
        | inl here ↦ (let e = alike row.session q sid here in let t = turned q sid in grind (arith, later, other, here, e, t))
        | inr gone ↦ grind (arith, later, other, gone)
      ]
    ]

pub once_without : (rows : List Row) (sid : List ℕ) → are_once rows ≡ true → are_once (filter (λ row. not (same_session row.session sid)) rows) ≡ true
once_without [] sid once = refl
once_without (row ∷ rows) sid once =
    let parts = and_parts (is_none (deadline_in rows row.session)) (are_once rows) once in
    let later = once_without rows sid parts.1 in
    let left = deadline_without rows sid row.session in
    elim (cases_Bool (same_session row.session sid)) [
      | inl own ↦ grind (arith, later, own)
      | inr other ↦ (let t = turned row.session sid in grind (arith, later, other, left, parts.0, t))
    ]

-- what is in with one more row, at any place
pub deadline_with : (rows : List Row) (at : ℕ) (row : Row) (q : List ℕ) → deadline_in rows row.session ≡ None
    → deadline_in (insert rows at row) q ≡ cond (same_session row.session q) (Some row.deadline) (deadline_in rows q)
deadline_with rows zero row q none = refl
deadline_with [] (suc at) row q none = refl
deadline_with (first ∷ rows) (suc at) row q none =
    let apart = head_apart first rows row.session none in
    let later = deadline_with rows at row q apart.1 in
    elim (cases_Bool (same_session first.session q)) [
      | inl here ↦ (let e = alike first.session q row.session here in let t = turned q row.session in grind (arith, later, here, apart.0, e, t))
      | inr gone ↦ grind (arith, later, gone)
    ]

pub once_with : (rows : List Row) (at : ℕ) (row : Row) → deadline_in rows row.session ≡ None → are_once rows ≡ true → are_once (insert rows at row) ≡ true
once_with rows zero row none once = and_from _ _ (ap is_none none) once
once_with [] (suc at) row none once = refl
once_with (first ∷ rows) (suc at) row none once =
    let apart = head_apart first rows row.session none in
    let parts = and_parts (is_none (deadline_in rows first.session)) (are_once rows) once in
    let later = once_with rows at row apart.1 parts.1 in
    let left = deadline_with rows at row first.session apart.1 in
    let t = turned first.session row.session in
    grind (arith, later, left, parts.0, apart.0, t)

-- rows in order are parted by any deadline
pub parted : (rows : List Row) (deadline : ℕ) → IsNonDecreasingBy (λ (row : Row). row.deadline) rows
    → IsPartitionedBy (λ (row : Row). nat_le row.deadline deadline) rows
parted rows deadline ordered i j d up within h =
    let below = ordered i j d up within in
    grind (arith, nat_tests, below, h)

-- where no row is below a bound, no session's deadline is
pub none_below : (rows : List Row) (low : ℕ) → ((k : ℕ) (d : Row) → k < length rows → low ≤ (get_or rows k d).deadline)
    → (sid : List ℕ) → IfSome (deadline_in rows sid) (λ deadline. low ≤ deadline)
none_below [] low above sid = tt
none_below (row ∷ rows) low above sid =
    elim (cases_Bool (same_session row.session sid)) [
      | inl here ↦ rw here (above 0 row (omega arith))
      | inr gone ↦ rw gone (none_below rows low (λ k d lt. above (suc k) d (omega arith)) sid)
    ]

-- the first of rows in order is its session's, and none is below it
pub first_own : (rows : List Row) (row : Row) → slice_get rows 0 ≡ Some row → deadline_in rows row.session ≡ Some row.deadline
first_own [] row first = absurd cc
first_own (head ∷ rows) row first =
    let same : head ≡ row = ap (λ (found : Option Row). unwrap_or found row) first in
    let here : same_session head.session row.session ≡ true = ap (λ (r : Row). same_session head.session r.session) (sym same) ∙ nat_list_eq_equiv.refl head.session in
    rw here (ap (λ (r : Row). Some r.deadline) same)

pub first_least : (rows : List Row) (row : Row) (low : ℕ) → slice_get rows 0 ≡ Some row → IsNonDecreasingBy (λ (row : Row). row.deadline) rows → low ≤ row.deadline
    → (sid : List ℕ) → IfSome (deadline_in rows sid) (λ deadline. low ≤ deadline)
first_least [] row low first ordered below sid = tt
first_least (head ∷ rows) row low first ordered below sid =
    let same : head.deadline ≡ row.deadline = ap (λ (found : Option Row). (unwrap_or found row).deadline) first in
    none_below (head ∷ rows) low (λ k d lt. let up = ordered 0 k d (omega arith) lt in omega (arith, up, same, below)) sid

-- what is later than a moment stays
later_stay : (moment : ℕ) (deadline : Option ℕ) → IfSome deadline (λ until. suc moment ≤ until) → deadline ≡ later_than moment deadline
later_stay moment None later = refl
later_stay moment (Some until) later = let no : nat_le until moment ≡ false = grind (arith, nat_tests, later) in rw no refl

-- two sessions that are one have one deadline
alike_in : (rows : List Row) (a b : List ℕ) → same_session a b ≡ true → deadline_in rows a ≡ deadline_in rows b
alike_in [] a b h = refl
alike_in (row ∷ rows) a b h =
    let rest = alike_in rows a b h in
    let e : same_session row.session a ≡ same_session row.session b = turned row.session a ∙ alike a b row.session h ∙ turned b row.session in
    elim (cases_Bool (same_session row.session b)) [
      | inl here ↦ (let same = e ∙ here in rw (same, here) refl)
      | inr gone ↦ (let same = e ∙ gone in rw (same, gone) rest)
    ]

pub no_rows : (rows : List Row) → length rows ≡ 0 → rows ≡ []
no_rows [] h = refl
no_rows (row ∷ rows) h = absurd (omega arith)

-- where the moment has come to just those in front of a place, what is left behind it is what is later
pub deadline_behind : (rows : List Row) (many moment : ℕ) (q : List ℕ) → ((k : ℕ) (d : Row) → k < many → (get_or rows k d).deadline ≤ moment)
    → ((k : ℕ) (d : Row) → many ≤ k → k < length rows → suc moment ≤ (get_or rows k d).deadline) → are_once rows ≡ true
    → deadline_in (drop many rows) q ≡ later_than moment (deadline_in rows q)
deadline_behind [] zero moment q front behind once = refl
deadline_behind [] (suc many) moment q front behind once = refl
deadline_behind (row ∷ rows) zero moment q front behind once =
    later_stay moment (deadline_in (row ∷ rows) q) (none_below (row ∷ rows) (suc moment) (λ k d lt. behind k d (omega arith) lt) q)
deadline_behind (row ∷ rows) (suc many) moment q front behind once =
    let parts = and_parts (is_none (deadline_in rows row.session)) (are_once rows) once in
    let rest = deadline_behind rows many moment q (λ k d lt. front (suc k) d (omega arith)) (λ k d low lt. behind (suc k) d (omega arith) (omega arith)) parts.1 in
    elim (cases_Bool (same_session row.session q)) [
      | inl here ↦
          let none : deadline_in rows row.session ≡ None = is_none_is (deadline_in rows row.session) parts.0 in
          let gone : deadline_in rows q ≡ None = sym (alike_in rows row.session q here) ∙ none in
          let come : nat_le row.deadline moment ≡ true = let low = front 0 row (omega arith) in grind (arith, nat_tests, low) in
          rest ∙ ap (later_than moment) gone ∙ rw (here, come) refl
      | inr gone ↦ rest ∙ rw gone refl
    ]

pub once_behind : (rows : List Row) (many : ℕ) → are_once rows ≡ true → are_once (drop many rows) ≡ true
once_behind [] zero once = refl
once_behind [] (suc many) once = refl
once_behind (row ∷ rows) zero once = once
once_behind (row ∷ rows) (suc many) once = once_behind rows many (and_parts (is_none (deadline_in rows row.session)) (are_once rows) once).1
