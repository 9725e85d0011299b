-- The messages in octets that go out.
use Rattle.std.specs.Prelude.{◌≡◌, ℕ, suc, ◌-◌, ◌≤◌, max, nat_eq, nat_le, nat_lt, if◌then◌else◌, List, [], ◌∷◌, ◌++◌, length}
use Rattle.std.specs.List.{AllByRecursion, concat}
use Rattle.dcc_octets.specs.Numbers.{u24_at}

-- the length that the octets of a message state, as far as they are there: at least one octet
abbrev pub stated : List ℕ → ℕ
stated octets = if nat_lt (length octets) 4 then 1 else max (u24_at octets 1) 1

-- a message, whose octets state its length (RFC 6733 section 3)
abbrev pub IsMessage : List ℕ → Type 0
IsMessage message = (4 ≤ length message) × (u24_at message 1 ≡ length message)

-- the octets are so many, which are left of a message, and then whole messages
abbrev pub Continue : (left : ℕ) → List (List ℕ) → List ℕ → Type 0
Continue left messages octets = (tail : List ℕ) × (length tail ≡ left) × (octets ≡ tail ++ concat messages) × AllByRecursion IsMessage messages

-- how many of these messages end within so many octets
abbrev pub ends : ℕ → List (List ℕ) → ℕ
ends taken [] = 0
ends taken (message ∷ messages) = if nat_le (length message) taken then suc (ends (taken - length message) messages) else 0

-- the same if so many octets are left of a message before them, which ends too
abbrev pub ends_behind : (left taken : ℕ) → List (List ℕ) → ℕ
ends_behind left taken messages =
    if nat_eq left 0 then ends taken messages else (if nat_le left taken then suc (ends (taken - left) messages) else 0)

-- how many octets are left behind so many of the message that they end in; none if they end with a message
abbrev pub left_in : ℕ → List (List ℕ) → ℕ
left_in taken [] = 0
left_in taken (message ∷ messages) =
    if nat_eq taken 0 then 0 else (if nat_le (length message) taken then left_in (taken - length message) messages else length message - taken)

abbrev pub left_behind : (left taken : ℕ) → List (List ℕ) → ℕ
left_behind left taken messages =
    if nat_eq left 0 then left_in taken messages else (if nat_le left taken then left_in (taken - left) messages else left - taken)
