use Rattle.std.proofs.Common.{◌≡◌, take, reverse}
use Rattle.dcc_model.specs.Sessions.{lives}
use Rattle.dcc_model.proofs.sessions.lives.Given as goal

abbrev pub invariant-loop-i : goal.invariant-loop-i
invariant-loop-i l = l.held.items ≡ lives l.terms (reverse (take l.i l.past))
