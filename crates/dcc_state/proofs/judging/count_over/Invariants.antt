use Rattle.std.proofs.Common.{◌≡◌, ◌≤◌, take, count_by}
use Rattle.dcc_state.specs.OpenSessions.{is_over_at}
use Rattle.dcc_state.proofs.judging.count_over.Given as goal

abbrev pub invariant-loop-session : goal.invariant-loop-session
invariant-loop-session l = record {
  counted : l.count ≡ count_by (is_over_at l.moment) (take l.session-index l.sessions);
  bound : l.count ≤ l.session-index;
}
