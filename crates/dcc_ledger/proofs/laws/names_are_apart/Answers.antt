use Rattle.dcc_ledger.proofs.Names.{names_apart}
use Rattle.dcc_ledger.proofs.laws.names_are_apart.Goals as goal

pub returns : goal.returns
returns c = names_apart
