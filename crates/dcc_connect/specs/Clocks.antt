-- The moments at which messages are taken.
use Rattle.std.specs.Prelude.{ℕ, List}

-- The receiver of messages stands beside its clock. A message is taken as without the clock, at the moment of one reading of the clock.
-- This reading is the message's alone: afterwards the clock is as the reading left it.
abbrev pub timed : {S C X : Type 0} → (C → ℕ → C → Type 0) → (S → ℕ → List ℕ → X → S → Type 0) → S × C → ℕ → List ℕ → X → S × C → Type 0
timed tells takes s moment message x t = tells s.1 moment t.1 × takes s.0 moment message x t.0
