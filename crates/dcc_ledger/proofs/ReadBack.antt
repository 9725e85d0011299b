-- A plan reads what is shown of a moment as that moment.
use Rattle.std.proofs.Common.{◌≡◌, ℕ, ◌+◌, ◌*◌, ◌/◌, ◌%◌, ◌<◌, ◌≤◌, nat_lt, true, ◌&&◌, arith, codes, pos, ◌*ℤ◌, Some, None, Ok}
use Rattle.std.proofs.Common.{if◌then◌else◌, int_le, slice_index}
use Rattle.std.proofs.lemmas.Bool.Decides.{nat_tests}
use Rattle.std.specs.Char.{is_ascii_digit}
use Rattle.jiff_core.proofs.CalendarLemmas.{days_in_month_bounds}
use Rattle.jiff_core.proofs.SignedLemmas.{signed_arith}
use Rattle.jiff.proofs.Family.{parse_timestamp-text}
use Rattle.jiff.specs.Types.{Timestamp}
use Rattle.jiff.specs.Words.{parse_timestamp}
use Rattle.dcc_tariff.specs.PlanTexts.{has_form, moment_of}
use Rattle.dcc_tariff.specs.declared.limits.TheConstants.{LAST_SECOND}
use Rattle.dcc_ledger.specs.Laws.{MomentsAreReadBack}
use Rattle.dcc_ledger.specs.Moments.{year_of, month_of, day_of_month, moment_text}
use Rattle.dcc_ledger.proofs.Calendar.{real_date}
use Rattle.dcc_ledger.proofs.Dates.{printed, datetime_of}

-- jiff reads it as the instant
instant : (seconds : ℕ) → seconds < 4_200_000_000 → parse_timestamp (moment_text seconds) ≡ Ok (pos seconds *ℤ pos 1_000_000_000)
instant seconds h =
    let dt = datetime_of seconds h in
    let t : Timestamp = record {
      nanosecond = pos seconds *ℤ pos 1_000_000_000;
      in_range = (omega (arith, signed_arith), omega (arith, signed_arith));
    } in
    rw (← (printed dt.0 seconds h dt.1)) (parse_timestamp-text dt.0 t dt.1)

tens : (n : ℕ) → n < 100 → is_ascii_digit (48 + n / 10) ≡ true
tens n h = grind (arith, nat_tests)

ones : (n : ℕ) → is_ascii_digit (48 + n % 10) ≡ true
ones n = grind (arith, nat_tests)

below : (n : ℕ) → n < 54 → nat_lt n 54 ≡ true
below n h = grind (arith, nat_tests)

within : (moment n : ℕ) → moment ≤ LAST_SECOND → n ≡ moment
    → (if int_le (pos 0) (pos n) && int_le (pos n) (pos LAST_SECOND) then Some n else None) ≡ Some moment
within moment n h e = grind (arith, nat_tests)

-- it has the form of a plan's moments
formed : (seconds : ℕ) → seconds < 4_200_000_000 → has_form (codes "0000-00-00T00:00:00Z") (moment_text seconds) ≡ true
unfolding moment_text
formed seconds h =
    let day = seconds / 86_400 in
    let second = seconds % 86_400 in
    let early : day < 50_000 = omega arith in
    let real = (real_date day early).0 in
    let y = year_of day in
    let m = month_of day in
    let d = day_of_month day in
    let y_high : y < 10_000 = omega (arith, signed_arith, real.0) in
    let m_high : m < 100 = omega (arith, real.1) in
    let d_high : d < 100 = omega (arith, real.2, days_in_month_bounds (pos y) m) in
    rw (
      tens (y / 100) (omega arith),
      ones (y / 100),
      tens (y % 100) (omega arith),
      ones (y % 100),
      tens m m_high,
      ones m,
      tens d d_high,
      ones d,
      tens (second / 3600) (omega arith),
      ones (second / 3600),
      tens (second / 60 % 60) (omega arith),
      ones (second / 60 % 60),
      tens (second % 60) (omega arith),
      ones (second % 60),
    )

-- with seconds up to 59
short_minute : (seconds : ℕ) → nat_lt (slice_index (moment_text seconds) 17) 54 ≡ true
unfolding moment_text
short_minute seconds = below (48 + seconds % 86_400 % 60 / 10) (omega arith)

pub read_back : MomentsAreReadBack
unfolding moment_of
read_back moment h =
    let early : moment < 4_200_000_000 = omega arith in
    rw (instant moment early, formed moment early, short_minute moment) (within moment (moment * 1_000_000_000 / 1_000_000_000) h (omega arith))
