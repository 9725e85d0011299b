use Rattle.dcc_model.proofs.LawProofs.{one_more_opens}
use Rattle.dcc_model.proofs.laws.one_more_act_opens.Goals as goal

pub returns : goal.returns
returns c = one_more_opens
