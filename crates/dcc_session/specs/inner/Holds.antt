-- The holds of a session beside its grants.
use Rattle.std.specs.Prelude.{◌≡◌, ℕ, true, List, map}
use Rattle.dcc_escrow.specs.Pools.{HoldView}
use Rattle.dcc_act.specs.ServiceKeys.{are_apart}
use Rattle.dcc_session.specs.declared.held.Held.{Held}
use Rattle.dcc_session.specs.Grants.{key_of_held, held_price}

-- the hold of a grant: exactly its price
abbrev pub hold_of : ℕ → Held → HoldView
hold_of pool held = record { pool = pool; amount = held_price held }

abbrev pub amount_of : HoldView → ℕ
amount_of hold = hold.amount

-- each grant has its hold on this pool, in the same order, and no service has two
pub record AreHeld (pool : ℕ) (grants : List Held) (holds : List HoldView) : Type 0 where
  pub held : holds ≡ map (hold_of pool) grants
  pub apart : are_apart (map key_of_held grants) ≡ true
