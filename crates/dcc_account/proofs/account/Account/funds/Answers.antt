use Rattle.std.proofs.Common.{arith}
use Rattle.std.proofs.lemmas.Int.{ints}
use Rattle.dcc_account.proofs.account.Account.funds.Goals as goal

pub returns-clause-value : goal.returns-clause-value
returns-clause-value c =
    rw (← c.self.view_is)
    (let found = c.committed.ensures.value in
    let kept = c.self.invariant.funds_are in
    omega (arith, ints))

pub returns-clause-low : goal.returns-clause-low
returns-clause-low c =
    let found = c.committed.ensures.value in
    let kept = c.self.invariant.funds_are in
    let law = (c.funds_are_accounted_for.ensures.limited c.self.inside.terms c.self.inside.acts.acts).0 in
    omega (arith, ints)

pub returns-clause-high : goal.returns-clause-high
returns-clause-high c =
    let found = c.committed.ensures.value in
    let kept = c.self.invariant.funds_are in
    let law = (c.funds_are_accounted_for.ensures.limited c.self.inside.terms c.self.inside.acts.acts).1 in
    omega (arith, ints)
