use Rattle.std.proofs.Common.{◌≡◌, ◌≤◌, filter, not, length, take}
use Rattle.dcc_state.specs.Known.{HoldsAll}
use Rattle.dcc_state.specs.OpenSessions.{SessionView, is_over_at}
use Rattle.dcc_state.proofs.applying.end_over.Given as goal

-- those in front are those whose time isn't over, and the pool keeps what all hold that are still there
abbrev pub invariant-loop-sessions : goal.invariant-loop-sessions
invariant-loop-sessions l = record {
  front : take l.kept l.sessions.items ≡ filter (λ (other : SessionView). not (is_over_at l.fn.moment other)) l.fn.sessions.items;
  within : l.kept ≤ length l.sessions.items;
  holds : HoldsAll l.pool l.sessions.items;
  funds : l.pool.committed ≡ l.initial.pool.committed;
}

abbrev pub decreases-loop-sessions : goal.decreases-loop-sessions
decreases-loop-sessions l = length l.sessions.items
