-- Locks that have their own places.
use Rattle.std.specs.Prelude.{◌≡◌, ℕ, ◌<◌, List, length, slice_index_or}
use Rattle.dcc_running.specs.declared.lock.Lock.{Lock}

-- each of these locks has its own index among so many locks
abbrev pub AreOf : {R J : Type 0} → ℕ → List (Lock R J) → Type 0
AreOf {R} {J} count locks = (i : ℕ) (none : Lock R J) → i < length locks → (slice_index_or locks i none).place ≡ record { index = i; count = count }
