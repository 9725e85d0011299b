-- Pools and holds, as contracts see them (O'Neil, The Escrow Transactional Method, ACM TODS 11(4), 1986).
use Rattle.std.specs.Prelude.{◌≡◌, ℕ, ℤ, pos, neg_ℤ, ◌-ℤ◌, ◌≤ℤ◌, ◌≤◌, ◌⊎◌}
use Rattle.dcc_escrow.specs.declared.limits.TheConstants.{MOST_MONEY}

-- money in minor units: the committed money, and the part of it that open requests have reserved
pub record PoolView : Type 0 where
  pub id : ℕ
  pub committed : ℤ
  pub reserved : ℕ

-- a reserved part of a pool: the pool, and the amount
pub record HoldView : Type 0 where
  pub pool : ℕ
  pub amount : ℕ

-- the least value that open requests can leave: the infimum of O'Neil's method
abbrev pub free : PoolView → ℤ
free pool = pool.committed -ℤ pos pool.reserved

-- a decrement is admitted if it takes nothing, or leaves the least value at 0 or above
abbrev pub IsCovered : PoolView → ℕ → Type 0
IsCovered pool amount = (amount ≡ 0) ⊎ (pos amount ≤ℤ free pool)

-- the funds are -10^18 or above, and 10^18 or below
abbrev pub IsAboveFloor : ℤ → Type 0
IsAboveFloor funds = neg_ℤ (pos MOST_MONEY) ≤ℤ funds

abbrev pub IsBelowCeiling : ℤ → Type 0
IsBelowCeiling funds = funds ≤ℤ pos MOST_MONEY

-- the hold may be spent on this pool: it is the pool's, and the pool has reserved as much
pub record IsOf (pool : PoolView) (hold : HoldView) : Type 0 where
  pub id : hold.pool ≡ pool.id
  pub reserved : hold.amount ≤ pool.reserved
