-- The date and the time of a moment in UTC, as text.
use Rattle.std.specs.Prelude.{ℕ, zero, suc, ◌+◌, ◌/◌, ◌%◌, if◌then◌else◌, List, [], ◌∷◌, ◌++◌, codes, ℤ, pos, ◌-ℤ◌, int_le, unsigned_abs}
use Rattle.jiff_core.specs.Calendar.{days_from_civil}

-- the day number of the first of a month by the Gregorian calendar, as `jiff` counts it: 0 for 1 January 1970
abbrev pub first_of_month : ℕ → ℕ → ℤ
first_of_month year month = days_from_civil (pos year) month 1

-- the last of the numbers up to n whose first day is on or before the day, and 0 if there is none
unfoldable pub last_begun : (ℕ → ℤ) → ℕ → ℕ → ℕ
last_begun first_day day zero = zero
last_begun first_day day (suc n) = if int_le (first_day (suc n)) (pos day) then suc n else last_begun first_day day n

-- the date of a day, counted from 1 January 1970: the last year up to 9999 that has begun by then, and in this year the last month that
-- has begun
abbrev pub year_of : ℕ → ℕ
year_of day = last_begun (λ year. first_of_month year 1) day 9999

abbrev pub month_of : ℕ → ℕ
month_of day = last_begun (λ month. first_of_month (year_of day) month) day 12

abbrev pub day_of_month : ℕ → ℕ
day_of_month day = unsigned_abs (pos day -ℤ first_of_month (year_of day) (month_of day)) + 1

-- a number below 100 in two digits, and a number below 10,000 in four
abbrev pub two_digits : ℕ → List ℕ
two_digits n = (48 + n / 10) ∷ (48 + n % 10) ∷ []

abbrev pub four_digits : ℕ → List ℕ
four_digits n = two_digits (n / 100) ++ two_digits (n % 100)

-- 2025-06-01
abbrev pub date_text : ℕ → List ℕ
date_text day = four_digits (year_of day) ++ codes "-" ++ two_digits (month_of day) ++ codes "-" ++ two_digits (day_of_month day)

-- 00:01:00, from the seconds since midnight
abbrev pub time_text : ℕ → List ℕ
time_text second = two_digits (second / 3600) ++ codes ":" ++ two_digits (second / 60 % 60) ++ codes ":" ++ two_digits (second % 60)

-- 2025-06-01T00:01:00Z, from the seconds since 1970-01-01T00:00:00Z; each day has 86,400 seconds
unfoldable pub moment_text : ℕ → List ℕ
moment_text seconds = date_text (seconds / 86_400) ++ codes "T" ++ time_text (seconds % 86_400) ++ codes "Z"
