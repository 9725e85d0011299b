use Rattle.std.proofs.Common.{sym, subst, arith}
use Rattle.std.proofs.lemmas.List.Sums.{sum_by-take-le}
use Rattle.dcc_act.specs.Answers.{AreAnswers}
use Rattle.dcc_credit.proofs.ServiceSizes.{most_of, most_of_answers}
use Rattle.dcc_credit.proofs.services.put_services.Goals as goal

pub returns-clause-grows : goal.returns-clause-grows
returns-clause-grows c =
    let limits = subst AreAnswers (sym c.as_slice-service-items.ensures.value) c.as_slice-service-items.ensures.limits in
    let grows = c.loop-service.invariant.grows in
    let all = most_of_answers c.as_slice-service-items.result.now limits in
    let part = sum_by-take-le most_of c.as_slice-service-items.result.now c.loop-service.service-index in
    record { no_less = grows.no_less; whole = grows.whole; within = omega arith }
