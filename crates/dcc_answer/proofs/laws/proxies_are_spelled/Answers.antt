use Rattle.dcc_answer.proofs.Results.{proxies_of_read}
use Rattle.dcc_answer.proofs.laws.proxies_are_spelled.Goals as goal

pub returns : goal.returns
returns c = proxies_of_read
