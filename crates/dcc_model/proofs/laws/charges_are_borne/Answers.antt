use Rattle.dcc_model.proofs.Funds.{charges_are_borne}
use Rattle.dcc_model.proofs.laws.charges_are_borne.Goals as goal

pub returns : goal.returns
returns c = charges_are_borne
