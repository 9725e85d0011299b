use Rattle.dcc_act.proofs.SameSubs.{same_are_equal}
use Rattle.dcc_act.proofs.laws.same_subscribers_are_equal.Goals as goal

pub returns : goal.returns
returns c = same_are_equal
