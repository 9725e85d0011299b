-- Open sessions, as contracts see them.
use Rattle.std.specs.Prelude.{◌≡◌, ℕ, ◌≤◌, List}
use Rattle.dcc_escrow.specs.Pools.{PoolView}
use Rattle.dcc_session.specs.declared.held.Held.{Held}
use Rattle.dcc_session.specs.Grants.{prices}

-- an open session: the pool of its holds, its deadline, and its live grants; each grant has a hold of exactly its price
pub record OpenView : Type 0 where
  pub pool : ℕ
  pub deadline : ℕ
  pub grants : List Held

-- grants that are about to be made, and the number of grants of a session for which there is memory beside them
pub record GrantedView : Type 0 where
  pub grants : List Held
  pub room : ℕ

-- the session's holds are of this pool, which has reserved at least the sum of them
pub record IsHeldOn (pool : PoolView) (session : OpenView) : Type 0 where
  pub id : session.pool ≡ pool.id
  pub reserved : prices session.grants ≤ pool.reserved
