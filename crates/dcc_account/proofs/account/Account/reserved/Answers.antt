use Rattle.std.proofs.Common.{arith}
use Rattle.std.proofs.lemmas.Int.{ints}
use Rattle.dcc_account.proofs.Steps.{free_is}
use Rattle.dcc_account.proofs.account.Account.reserved.Goals as goal

pub returns : goal.returns
returns c =
    rw (← c.self.view_is)
    (let found = c.reserved.ensures in
    let own = c.self.inside in
    let kept = free_is c.sessions_hold_what_is_reserved.ensures own.terms own.acts.acts own.outcomes.items own.entries.items own.pool own.overrun own.sessions.items own.due own.indexes c.self.invariant in
    let funds_are = c.self.invariant.funds_are in
    omega (arith, ints))
