use Rattle.std.proofs.Common.{◌≡◌, ◌≤◌, ◌-◌, sum_by}
use Rattle.std.specs.List.{All}
use Rattle.dcc_escrow.specs.Pools.{HoldView}
use Rattle.dcc_session.specs.inner.Holds.{amount_of}
use Rattle.dcc_session.proofs.holds.release_all.Given as goal

-- what is parked is still reserved, and what was taken out is given back
abbrev pub invariant-loop-parked : goal.invariant-loop-parked
invariant-loop-parked l =
    All (λ (hold : HoldView). hold.pool ≡ l.pool.id) l.holds.items
    × (sum_by amount_of l.holds.items ≤ l.pool.reserved)
    × (l.pool.id ≡ l.initial.pool.id)
    × (l.pool.committed ≡ l.initial.pool.committed)
    × (l.pool.reserved - sum_by amount_of l.holds.items ≡ l.initial.pool.reserved - sum_by amount_of l.initial.holds.items)

abbrev pub decreases-loop-parked : goal.decreases-loop-parked
decreases-loop-parked l = goal.left-loop-parked l
