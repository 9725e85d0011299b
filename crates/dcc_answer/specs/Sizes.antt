-- How octets that are written grow.
use Rattle.std.specs.Prelude.{◌≡◌, ℕ, ◌+◌, ◌%◌, ◌≤◌}

-- from one length to another, by whole words of four octets, and by at most so many octets
pub record Grows (old new most : ℕ) : Type 0 where
  pub no_less : old ≤ new
  pub whole : new % 4 ≡ old % 4
  pub within : new ≤ old + most
