use Rattle.std.proofs.Common.{◌∙◌}
use Rattle.dcc_account.proofs.account.Account.outcomes.Goals as goal

pub returns : goal.returns
returns c = rw (← c.self.view_is) (c.deref.ensures.value ∙ c.self.invariant.kept.came_are)
