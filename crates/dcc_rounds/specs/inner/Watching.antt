-- How the timer reports stopped shards.
use Rattle.std.specs.Prelude.{◌≡◌, ℕ, ◌+◌, ◌<◌, ◌⊎◌, min, Bool, true, false, List, [], ◌∷◌}
use Rattle.dcc_running.specs.Calls.{IsToldStopped}

-- each of these marks, which are of the shards from `shard` on, stands only if the shard's stop was reported
abbrev pub AreMarked : (has_told : ℕ → Type 0) → (shard : ℕ) → List Bool → Type 0
AreMarked has_told shard [] = Unit {0}
AreMarked has_told shard (mark ∷ marks) = (mark ≡ true → has_told shard) × AreMarked has_told (shard + 1) marks

-- of each of so many shards, of 8 at most: its stop was reported, or its records had not failed when its lock was taken
abbrev pub AreWatched : {R : Type 0} → (is_stopped : R → Bool) → (has_told : ℕ → Type 0) → (count : ℕ) → Type 0
AreWatched is_stopped has_told count = (shard : ℕ) → shard < min count 8 → has_told shard ⊎ IsToldStopped is_stopped false
