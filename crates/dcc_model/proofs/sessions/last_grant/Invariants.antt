use Rattle.std.proofs.Common.{◌≡◌, take, reverse}
use Rattle.dcc_model.specs.Sessions.{last_grant}
use Rattle.dcc_model.proofs.sessions.last_grant.Given as goal

abbrev pub invariant-loop-done : goal.invariant-loop-done
invariant-loop-done l = l.grant ≡ last_grant (reverse (take l.done-index l.past)) l.sid l.key
