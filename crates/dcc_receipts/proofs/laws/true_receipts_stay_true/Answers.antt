use Rattle.dcc_receipts.proofs.Stretches.{stay_true}
use Rattle.dcc_receipts.proofs.laws.true_receipts_stay_true.Goals as goal

pub returns : goal.returns
returns c = stay_true c.later_acts_change_no_outcome.ensures
