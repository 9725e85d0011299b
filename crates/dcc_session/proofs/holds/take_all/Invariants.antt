use Rattle.std.proofs.Common.{◌≡◌, ◌+◌, ◌++◌, map, take, vec_capacity}
use Rattle.dcc_session.specs.Grants.{prices}
use Rattle.dcc_session.specs.inner.Holds.{hold_of}
use Rattle.dcc_session.proofs.holds.take_all.Given as goal

-- each grant that was passed has its hold
abbrev pub invariant-loop-held : goal.invariant-loop-held
invariant-loop-held l =
    (l.holds.items ≡ l.initial.holds.items ++ map (hold_of l.initial.pool.id) (take l.held-index l.grants))
    × (vec_capacity l.holds ≡ vec_capacity l.initial.holds)
    × (l.pool ≡ record l.initial.pool { reserved = l.initial.pool.reserved + prices (take l.held-index l.grants) })
