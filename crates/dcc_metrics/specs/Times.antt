-- Times in buckets, and as text.
use Rattle.std.specs.Prelude.{ℕ, ◌+◌, ◌-◌, ◌/◌, ◌%◌, ◌^◌, min, nat_le, List, [], ◌∷◌, ◌++◌, length, position, unwrap_or, codes}
use Rattle.std.specs.Fmt.{decimal}
use Rattle.dcc_metrics.specs.declared.bounds.TheConstants.{BOUNDS}

-- the index of the first bound that is not below a time; behind all of them if each is below it
abbrev pub first_from : List ℕ → ℕ → ℕ
first_from bounds micros = unwrap_or (position (λ bound. nat_le micros bound) bounds) (length bounds)

-- the bucket of a time: the last bucket has no bound
abbrev pub bucket_of : ℕ → ℕ
bucket_of micros = first_from BOUNDS micros

-- sums end at the greatest number of 64 bits
abbrev pub add : ℕ → ℕ → ℕ
add a b = min (a + b) (2 ^ 64 - 1)

-- each bucket with all before it
unfoldable pub cumulated : ℕ → List ℕ → List ℕ
cumulated so_far [] = []
cumulated so_far (n ∷ ns) = add so_far n ∷ cumulated (add so_far n) ns

-- the last three digits of a number
abbrev pub three_digits : ℕ → List ℕ
three_digits n = (48 + n / 100 % 10) ∷ (48 + n / 10 % 10) ∷ (48 + n % 10) ∷ []

-- microseconds in seconds
unfoldable pub seconds_text : ℕ → List ℕ
seconds_text micros = decimal (micros / 1_000_000) ++ codes "." ++ three_digits (micros / 1_000) ++ three_digits micros
