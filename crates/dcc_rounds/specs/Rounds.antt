-- Rounds, as a contract sees them.
use Rattle.std.specs.Prelude.{ℕ, Bool, ◌&&◌, nat_le}

-- the number of places of each round; the number of rounds; the number of messages of a place's gateways after which the place asks for a sweep;
-- whether a place is taken again once its gateway has gone; and the number of each round's attendants, which are threads that serve operators
pub record RoundsView : Type 0 where
  pub gates : ℕ
  pub rounds : ℕ
  pub every : ℕ
  pub stays : Bool
  pub attendants : ℕ

-- 1 to 16 gateways, 1 to 1,000,000 rounds, and 0 to 1,000,000 messages
abbrev pub are_rounds : ℕ → ℕ → ℕ → Bool
are_rounds gates rounds every =
    nat_le 1 gates && nat_le gates 16 && nat_le 1 rounds && nat_le rounds 1_000_000 && nat_le every 1_000_000

-- 1 to 256 places that are taken again, 0 to 1,000,000 messages, and 0 to 8 attendants
abbrev pub are_places : ℕ → ℕ → ℕ → Bool
are_places places every attendants = nat_le 1 places && nat_le places 256 && nat_le every 1_000_000 && nat_le attendants 8
