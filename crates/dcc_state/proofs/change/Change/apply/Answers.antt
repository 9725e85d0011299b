use Rattle.dcc_state.proofs.Deadlines.{kept_open, kept_end, kept_expire}
use Rattle.dcc_state.proofs.change.Change.apply.Goals as goal

pub returns-in-Open-clause-due : goal.returns-in-Open-clause-due
returns-in-Open-clause-due c =
    rw c.go_on.ensures.sessions (kept_open c.args.due.now c.go_on.new.due c.in-Open.turn c.args.sessions.now.items c.requires.due c.go_on.ensures.due)

pub returns-in-End-clause-due : goal.returns-in-End-clause-due
returns-in-End-clause-due c =
    rw c.end.ensures.sessions (kept_end c.args.due.now c.end.new.due _ c.args.sessions.now.items c.requires.due c.end.ensures.due)

pub returns-in-Expire-clause-due : goal.returns-in-Expire-clause-due
returns-in-Expire-clause-due c =
    rw c.end_over.ensures.sessions
    (kept_expire c.args.due.now c.end_over.new.due c.in-Expire.moment c.args.sessions.now.items c.requires.apart c.requires.due c.end_over.ensures.due)
