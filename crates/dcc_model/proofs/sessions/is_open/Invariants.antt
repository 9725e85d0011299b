use Rattle.std.proofs.Common.{◌≡◌, take, reverse}
use Rattle.dcc_model.specs.Sessions.{is_open}
use Rattle.dcc_model.proofs.sessions.is_open.Given as goal

abbrev pub invariant-loop-i : goal.invariant-loop-i
invariant-loop-i l = l.is_open ≡ is_open l.terms (reverse (take l.i l.past)) l.sid
