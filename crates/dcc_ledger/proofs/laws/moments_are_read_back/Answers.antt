use Rattle.dcc_ledger.proofs.ReadBack.{read_back}
use Rattle.dcc_ledger.proofs.laws.moments_are_read_back.Goals as goal

pub returns : goal.returns
returns c = read_back
