use Rattle.dcc_credit.proofs.Refusals.{refused_not_busy, refused_some}
use Rattle.dcc_credit.proofs.refusal.write_unfound.Goals as goal

pub returns-clause-not_busy : goal.returns-clause-not_busy
returns-clause-not_busy c =
    let w = c.refusal_within.ensures in
    refused_not_busy c.busy_by_result.ensures.told c.refusal_within.result _ _ _ _ _ w.exact w.server w.short w.failed w.spelled

pub returns-clause-some : goal.returns-clause-some
returns-clause-some c = refused_some c.busy_by_result.ensures.some c.refusal_within.result _ _ _ _ _ c.refusal_within.ensures.exact
