-- Top-ups, as a contract sees them.
use Rattle.std.specs.Prelude.{ℕ, Bool, ◌&&◌, nat_le}
use Rattle.dcc_act.specs.declared.limits.TheConstants.{MAX_AMOUNT}

-- a ticket and an amount in minor units
pub record TopUpView : Type 0 where
  pub ticket : ℕ
  pub amount : ℕ

-- 1 to 10^18 minor units
abbrev pub is_amount : ℕ → Bool
is_amount amount = nat_le 1 amount && nat_le amount MAX_AMOUNT
