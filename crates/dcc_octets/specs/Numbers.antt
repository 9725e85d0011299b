-- Numbers as octets, the highest octet first (RFC 6733, section 3).
use Rattle.std.specs.Prelude.{ℕ, ◌+◌, ◌==◌, if◌then◌else◌, List, [], ◌∷◌, length, slice_index, Option, Some, None}
use Rattle.std.specs.Int.{Width, w32, byte_len, from_be_bytes}

-- the number in octets that are as many as this width has
abbrev pub number_in : Width → List ℕ → Option ℕ
number_in width octets = if length octets == byte_len width then Some (from_be_bytes width octets) else None

-- the number in three octets, or in four, from this index on
abbrev pub u24_at : List ℕ → ℕ → ℕ
u24_at octets i = from_be_bytes w32 (0 ∷ slice_index octets i ∷ slice_index octets (i + 1) ∷ slice_index octets (i + 2) ∷ [])

abbrev pub u32_at : List ℕ → ℕ → ℕ
u32_at octets i =
    from_be_bytes w32 (slice_index octets i ∷ slice_index octets (i + 1) ∷ slice_index octets (i + 2) ∷ slice_index octets (i + 3) ∷ [])
