use Rattle.dcc_receipts.proofs.SameActs.{same_acts_are_equal}
use Rattle.dcc_receipts.proofs.laws.same_acts_are_equal.Goals as goal

pub returns : goal.returns
returns c = same_acts_are_equal
