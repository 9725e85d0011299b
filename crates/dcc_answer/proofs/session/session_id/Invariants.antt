use Rattle.std.proofs.Common.{◌≡◌, drop}
use Rattle.dcc_request.specs.Sessions.{session_of}
use Rattle.dcc_answer.proofs.session.session_id.Given as goal

abbrev pub invariant-loop-avp : goal.invariant-loop-avp
invariant-loop-avp l = session_of (drop l.avp-index l.avps) ≡ session_of l.avps
