use Rattle.std.proofs.Common.{sym}
use Rattle.dcc_state.proofs.Deadlines.{none_over}
use Rattle.dcc_state.proofs.judging.expired.Goals as goal

pub returns-in-None : goal.returns-in-None
returns-in-None c = sym (none_over c.args.due.now c.args.moment c.args.sessions.now c.requires.apart c.requires.due c.in-None.ensures.none)
