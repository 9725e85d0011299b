use Rattle.dcc_request.proofs.Lists.{read_together}
use Rattle.dcc_request.proofs.laws.list_within.Goals as goal

pub returns : goal.returns
returns c = read_together
