-- Memory for more acts, which an account has or a step brings.
use Rattle.std.specs.Prelude.{ℕ, Option}

-- the number of keys of an index, or of kept deadlines, and the number of further ones for which it has memory
pub record Held : Type 0 where
  pub count : ℕ
  pub room : ℕ

-- the numbers of further acts, outcomes, entries, open sessions, deadlines and keys for which an account has memory
pub record Room : Type 0 where
  pub acts : ℕ
  pub outcomes : ℕ
  pub entries : ℕ
  pub sessions : ℕ
  pub due : Held
  pub requests : Held
  pub tickets : Held
  pub opened : Held

-- the room of the larger journal, and the capacities of the larger vectors, deadlines and indexes, that a step brings
pub record Space : Type 0 where
  pub acts : Option ℕ
  pub outcomes : Option ℕ
  pub entries : Option ℕ
  pub sessions : Option ℕ
  pub due : Option ℕ
  pub requests : Option ℕ
  pub tickets : Option ℕ
  pub opened : Option ℕ
