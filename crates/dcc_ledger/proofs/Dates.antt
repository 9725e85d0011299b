-- The date and the time that jiff has for a moment are those of the definition.
use Rattle.std.proofs.Common.{◌≡◌, ℕ, ◌+◌, ◌*◌, ◌/◌, ◌%◌, ◌<◌, sym, ◌∙◌, arith, ◌++◌, codes, ℤ, pos, ◌+ℤ◌, ◌*ℤ◌}
use Rattle.jiff_core.proofs.SignedLemmas.{signed_arith}
use Rattle.jiff.proofs.Family.{civil_nanos-parts, epoch_day_injective}
use Rattle.jiff.specs.Types.{Date, DateTime, Time}
use Rattle.jiff.specs.Words.{civil_nanos, epoch_day, iso_datetime_text}
use Rattle.dcc_ledger.specs.Moments.{year_of, month_of, day_of_month, moment_text}
use Rattle.dcc_ledger.proofs.Calendar.{real_date}

-- the date of the definition, as jiff has dates
date_of : (day : ℕ) → day < 50_000 → Date
date_of day h =
    let real = (real_date day h).0 in record {
      year = pos (year_of day);
      month = month_of day;
      day = day_of_month day;
      year_in = real.0;
      month_in = real.1;
      day_in = real.2;
    }

-- the day of a moment and the time of that day, from the nanoseconds of a date and a time
parts_of : (date : ℤ) (hour minute second rest seconds : ℕ) → hour < 24 → minute < 60 → second < 60 → rest < 1_000_000_000
    → date *ℤ pos 86_400_000_000_000 +ℤ pos ((hour * 3600 + minute * 60 + second) * 1_000_000_000 + rest) ≡ pos seconds *ℤ pos 1_000_000_000
    → (date ≡ pos (seconds / 86_400)) × (hour ≡ seconds % 86_400 / 3600) × (minute ≡ seconds % 86_400 / 60 % 60)
    × (second ≡ seconds % 86_400 % 60) × (rest ≡ 0)
parts_of date hour minute second rest seconds a b c d e = omega (arith, signed_arith)

-- what jiff writes of the date and the time that come so many seconds after 1970-01-01T00:00:00, and a Z
pub printed : (dt : DateTime) (seconds : ℕ) → seconds < 4_200_000_000 → civil_nanos dt ≡ pos seconds *ℤ pos 1_000_000_000
    → iso_datetime_text dt ++ codes "Z" ≡ moment_text seconds
unfolding moment_text date_of
printed dt seconds h e =
    let parts = parts_of (epoch_day dt.date) dt.time.hour dt.time.minute dt.time.second dt.time.subsec_nanosecond seconds
    dt.time.hour_in dt.time.minute_in dt.time.second_in dt.time.subsec_in (sym (civil_nanos-parts dt) ∙ e) in
    let early : seconds / 86_400 < 50_000 = omega arith in
    let date = epoch_day_injective dt.date (date_of (seconds / 86_400) early) (parts.0 ∙ sym (real_date (seconds / 86_400) early).1) in
    rw (date.0, date.1, date.2, parts.1, parts.2, parts.3, parts.4)

-- the date and the time of a moment, as jiff has them
pub datetime_of : (seconds : ℕ) → seconds < 4_200_000_000 → (dt : DateTime) × (civil_nanos dt ≡ pos seconds *ℤ pos 1_000_000_000)
unfolding date_of
datetime_of seconds h =
    let early : seconds / 86_400 < 50_000 = omega arith in
    let date = date_of (seconds / 86_400) early in
    let second = seconds % 86_400 in
    let time : Time = record {
      hour = second / 3600;
      minute = second / 60 % 60;
      second = second % 60;
      subsec_nanosecond = 0;
      hour_in = omega arith;
      minute_in = omega arith;
      second_in = omega arith;
      subsec_in = omega arith;
    } in
    let dt : DateTime = record { date = date; time = time } in
    (dt, civil_nanos-parts dt ∙ rw (real_date (seconds / 86_400) early).1 (omega (arith, signed_arith)))
