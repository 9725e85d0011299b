-- The year, the month and the day of the definition are a date of the calendar, and of the day that they are asked for.
use Rattle.std.proofs.Common.{◌≡◌, ℕ, zero, suc, ◌+◌, ◌-◌, ◌<◌, ◌≤◌, inl, inr, refl, ap, ◌∙◌, arith, add-one, Bool, true, false}
use Rattle.std.proofs.Common.{if◌then◌else◌, ℤ, pos, ◌-ℤ◌, ◌<ℤ◌, ◌≤ℤ◌, int_le, unsigned_abs}
use Rattle.std.proofs.lemmas.Bool.{cases_order}
use Rattle.std.proofs.lemmas.Int.{ints}
use Rattle.jiff_core.specs.Calendar.{IsCivilDate, days_from_civil, days_in_month, days_in_year, day_count}
use Rattle.jiff_core.proofs.CalendarLemmas.{day_count-epoch, day_count-end, days_from_civil-day_count, day_count-lt_year, day_count-next_year}
use Rattle.jiff_core.proofs.CalendarLemmas.{day_count-next_month, day_count-last_of_year, day_count-day, days_in_year_bounds}
use Rattle.jiff_core.proofs.SignedLemmas.{signed_arith}
use Rattle.dcc_ledger.specs.Moments.{first_of_month, last_begun, year_of, month_of, day_of_month}

has_begun : (a b : ℤ) → int_le a b ≡ true → a ≤ℤ b
has_begun a b h = grind (arith, ints)

is_to_come : (a b : ℤ) → int_le a b ≡ false → b <ℤ a
is_to_come a b h = grind (arith, ints)

-- what holds of the last that has begun
record Begun (first : ℕ → ℤ) (day n k : ℕ) : Type 0 where
  low : 1 ≤ k
  high : k ≤ n
  begun : first k ≤ℤ pos day
  next : k < n → pos day <ℤ first (suc k)

one_more : (first : ℕ → ℤ) (day n : ℕ) (test : Bool) → int_le (first (suc n)) (pos day) ≡ test → first 1 ≤ℤ pos day
    → (1 ≤ n → Begun first day n (last_begun first day n))
    → Begun first day (suc n) (if test then suc n else last_begun first day n)
one_more first day n true is start before = record {
  low = omega arith;
  high = omega arith;
  begun = has_begun (first (suc n)) (pos day) is;
  next = λ lt. absurd (omega arith);
}
one_more first day zero false is start before = absurd (let late = is_to_come (first 1) (pos day) is in omega (arith, ints))
one_more first day (suc n) false is start before =
    let earlier = before (omega arith) in record {
      low = earlier.low;
      high = let h = earlier.high in omega arith;
      begun = earlier.begun;
      next = λ lt. elim (cases_order (last_begun first day (suc n)) (suc n)) [
        | inl same ↦ rw same (is_to_come (first (suc (suc n))) (pos day) is)
        | inr (inl less) ↦ earlier.next less
        | inr (inr more) ↦ absurd (let h = earlier.high in omega arith)
      ];
    }

begun_by : (first : ℕ → ℤ) (day n : ℕ) → 1 ≤ n → first 1 ≤ℤ pos day → Begun first day n (last_begun first day n)
unfolding last_begun
begun_by first day zero some start = absurd (omega arith)
begun_by first day (suc n) some start =
    one_more first day n (int_le (first (suc n)) (pos day)) refl start (λ more. begun_by first day n more start)

abbrev IsYear : ℕ → ℕ → Type 0
IsYear day y = Begun (λ year. first_of_month year 1) day 9999 y

abbrev IsMonth : ℕ → ℕ → ℕ → Type 0
IsMonth day y m = Begun (λ month. first_of_month y month) day 12 m

-- the first of January of the year 1 is long over
long_ago : (day : ℕ) → first_of_month 1 1 ≤ℤ pos day
long_ago day =
    let real : IsCivilDate (pos 1) 1 1 =
    ((omega (arith, signed_arith), omega (arith, signed_arith)), (omega arith, omega arith), (omega arith, omega arith)) in
    let order = day_count-lt_year (pos 1) 1 1 (pos 1970) 1 1 real (omega arith) (omega (arith, signed_arith)) in
    omega (arith, signed_arith, days_from_civil-day_count (pos 1) 1 1, day_count-epoch)

-- the day is one of its year
year_end : (day y : ℕ) → day < 50_000 → IsYear day y → day + 4_371_953 < day_count (pos y) 1 1 + days_in_year (pos y)
year_end day y h year = elim (cases_order y 9999) [
  | inr (inl lt) ↦
      let later : pos day <ℤ days_from_civil (pos (suc y)) 1 1 = year.next lt in
      let end = day_count-next_year (pos y) (pos (suc y)) (omega (arith, signed_arith)) (omega (arith, signed_arith)) in
      omega (arith, signed_arith, days_from_civil-day_count (pos (suc y)) 1 1)
  | inl last ↦
      let begun : days_from_civil (pos y) 1 1 ≤ℤ pos day = year.begun in
      let here = days_from_civil-day_count (pos y) 1 1 in
      let end : day_count (pos 10000) 1 1 ≡ day_count (pos y) 1 1 + days_in_year (pos y) =
      day_count-next_year (pos y) (pos 10000) (omega (arith, signed_arith)) (omega (arith, signed_arith)) in
      absurd (omega (arith, signed_arith, day_count-end, days_in_year_bounds (pos y)))
  | inr (inr gt) ↦ absurd (let high = year.high in omega arith)
]

-- and one of its month
month_end : (day y m : ℕ) → day < 50_000 → IsYear day y → IsMonth day y m
    → day + 4_371_953 < day_count (pos y) m 1 + days_in_month (pos y) m
month_end day y m h year month = elim (cases_order m 12) [
  | inr (inl lt) ↦
      let later : pos day <ℤ days_from_civil (pos y) (suc m) 1 = month.next lt in
      let low = month.low in
      let end = rw (add-one m) at (day_count-next_month (pos y) m low) in
      omega (arith, signed_arith, days_from_civil-day_count (pos y) (suc m) 1)
  | inl last ↦
      let end = year_end day y h year in
      rw last (omega (arith, day_count-last_of_year (pos y), day_count-day (pos y) 12 31 1 (omega arith) (omega arith)))
  | inr (inr gt) ↦ absurd (let high = month.high in omega arith)
]

date_of : (day y m d : ℕ) → day < 50_000 → IsYear day y → IsMonth day y m → d ≡ unsigned_abs (pos day -ℤ first_of_month y m) + 1
    → IsCivilDate (pos y) m d × (days_from_civil (pos y) m d ≡ pos day)
date_of day y m d h year month e =
    let begun : days_from_civil (pos y) m 1 ≤ℤ pos day = month.begun in
    let end = month_end day y m h year month in
    let here = days_from_civil-day_count (pos y) m 1 in
    let gap : pos day -ℤ days_from_civil (pos y) m 1 ≡ pos (day + 4_371_953 - day_count (pos y) m 1) = omega (arith, signed_arith) in
    let place : d ≡ day + 4_371_953 - day_count (pos y) m 1 + 1 = e ∙ ap (λ (z : ℤ). unsigned_abs z + 1) gap in
    let first : 1 ≤ d = omega arith in
    let y_high = year.high in
    let real : IsCivilDate (pos y) m d =
    ((omega (arith, signed_arith), omega (arith, signed_arith)), (month.low, month.high), (first, omega (arith, signed_arith))) in
    (real, omega (arith, signed_arith, days_from_civil-day_count (pos y) m d, day_count-day (pos y) m d 1 first (omega arith)))

-- the definition's date is one of the calendar, and the day's
pub real_date : (day : ℕ) → day < 50_000 → IsCivilDate (pos (year_of day)) (month_of day) (day_of_month day)
    × (days_from_civil (pos (year_of day)) (month_of day) (day_of_month day) ≡ pos day)
real_date day h =
    let year = begun_by (λ year. first_of_month year 1) day 9999 (omega arith) (long_ago day) in
    let month = begun_by (λ month. first_of_month (year_of day) month) day 12 (omega arith) year.begun in
    date_of day (year_of day) (month_of day) (day_of_month day) h year month refl
