use Rattle.dcc_credit.proofs.Messages.{written_not_busy, written_some}
use Rattle.dcc_credit.proofs.answer.write_cca.Goals as goal

pub returns-clause-not_busy : goal.returns-clause-not_busy
returns-clause-not_busy c =
    let w = c.answer_within.ensures in
    written_not_busy c.busy_by_result.ensures.told c.read_back.ensures.size c.answer_within.result _ _ _ _ _ w.exact w.limits w.spelled

pub returns-clause-some : goal.returns-clause-some
returns-clause-some c = written_some c.busy_by_result.ensures.some c.answer_within.result _ _ _ _ _ c.answer_within.ensures.exact
