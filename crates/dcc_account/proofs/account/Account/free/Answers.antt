use Rattle.std.proofs.Common.{arith}
use Rattle.std.proofs.lemmas.Int.{ints}
use Rattle.dcc_account.proofs.Steps.{free_is}
use Rattle.dcc_account.proofs.account.Account.free.Goals as goal

pub returns-clause-value : goal.returns-clause-value
returns-clause-value c =
    rw (← c.self.view_is)
    (let found = c.free.ensures in
    let own = c.self.inside in
    let kept = free_is c.sessions_hold_what_is_reserved.ensures own.terms own.acts.acts own.outcomes.items own.entries.items own.pool own.overrun own.sessions.items own.due own.indexes c.self.invariant in
    omega (arith, ints))

pub returns-clause-covered : goal.returns-clause-covered
returns-clause-covered c =
    rw (← c.self.view_is)
    (let found = c.free.ensures in
    let own = c.self.inside in
    let kept = free_is c.sessions_hold_what_is_reserved.ensures own.terms own.acts.acts own.outcomes.items own.entries.items own.pool own.overrun own.sessions.items own.due own.indexes c.self.invariant in
    let law = c.funds_are_accounted_for.ensures.covered own.terms own.acts.acts c.self.invariant.kept.keyed in
    omega (arith, ints))
