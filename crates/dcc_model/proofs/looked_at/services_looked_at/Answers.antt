use Rattle.std.proofs.Common.{ap, ◌∙◌, arith}
use Rattle.dcc_act.specs.Services.{are_services}
use Rattle.std.proofs.lemmas.Result.{IfOk-weaker}
use Rattle.dcc_model.proofs.Answering.{count_ids, few_ids, ids_without_report, ids_without_asked, limits_without_report, limits_without_asked}
use Rattle.dcc_model.proofs.looked_at.services_looked_at.Goals as goal

pub returns-in-Initial-clause-few_ids : goal.returns-in-Initial-clause-few_ids
returns-in-Initial-clause-few_ids c =
    let few = few_ids c.in-Initial.request.services c.as_slice.ensures.limits in
    IfOk-weaker c.without_reports.result _ _
    (λ kept is.
    let same = ap count_ids is ∙ ids_without_report c.as_slice.result.now ∙ ap count_ids c.as_slice.ensures.value in
    omega arith)
    c.without_reports.ensures

pub returns-in-Termination-clause-few_ids : goal.returns-in-Termination-clause-few_ids
returns-in-Termination-clause-few_ids c =
    let few = few_ids c.in-Termination.request.services c.as_slice-in-Termination.ensures.limits in
    IfOk-weaker c.without_wishes.result _ _
    (λ kept is.
    let same = ap count_ids is ∙ ids_without_asked c.as_slice-in-Termination.result.now ∙ ap count_ids c.as_slice-in-Termination.ensures.value in
    omega arith)
    c.without_wishes.ensures

pub returns-in-Initial-clause-limits : goal.returns-in-Initial-clause-limits
returns-in-Initial-clause-limits c =
    IfOk-weaker c.without_reports.result _ _
    (λ kept is. ap are_services is ∙ limits_without_report c.as_slice.result.now ∙ ap are_services c.as_slice.ensures.value ∙ c.as_slice.ensures.limits)
    c.without_reports.ensures

pub returns-in-Termination-clause-limits : goal.returns-in-Termination-clause-limits
returns-in-Termination-clause-limits c =
    IfOk-weaker c.without_wishes.result _ _
    (λ kept is. ap are_services is ∙ limits_without_asked c.as_slice-in-Termination.result.now ∙ ap are_services c.as_slice-in-Termination.ensures.value ∙ c.as_slice-in-Termination.ensures.limits)
    c.without_wishes.ensures
