use Rattle.dcc_account.proofs.Steps.{own_acts}
use Rattle.dcc_account.proofs.account.Account.acts.Goals as goal

pub returns-clause-own : goal.returns-clause-own
returns-clause-own c = rw (← c.self.view_is) (own_acts c.self.inside.terms c.self.inside.acts.acts c.self.inside.outcomes.items c.self.inside.entries.items c.self.invariant.kept)
