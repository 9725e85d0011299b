use Rattle.std.proofs.Common.{◌≡◌, ◌≤◌, take, reverse}
use Rattle.dcc_model.specs.Sessions.{deadline}
use Rattle.dcc_model.proofs.sessions.deadline.Given as goal

abbrev pub invariant-loop-done : goal.invariant-loop-done
invariant-loop-done l = record {
  value : l.deadline ≡ deadline l.terms (reverse (take l.done-index l.past)) l.sid;
  bound : l.deadline ≤ 4_103_444_799;
}
