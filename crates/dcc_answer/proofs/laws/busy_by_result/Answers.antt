use Rattle.dcc_answer.proofs.Results.{told, answer_least, told_error, error_least}
use Rattle.dcc_answer.proofs.laws.busy_by_result.Goals as goal

pub returns : goal.returns
returns c = record { told = told c.read_back.ensures.list; some = answer_least; error = told_error c.read_back.ensures.list; error_some = error_least }
