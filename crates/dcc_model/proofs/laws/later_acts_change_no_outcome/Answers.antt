use Rattle.dcc_model.proofs.LawProofs.{later_changes_nothing}
use Rattle.dcc_model.proofs.laws.later_acts_change_no_outcome.Goals as goal

pub returns : goal.returns
returns c = later_changes_nothing
