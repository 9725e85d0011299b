use Rattle.std.proofs.Common.{◌≡◌, ℕ, ◌+◌, to_z, of_z, List, ◌++◌, reverse, drop, length, sym, ap, ◌∙◌, arith}
use Rattle.std.proofs.lemmas.Int.{ints}
use Rattle.std.proofs.lemmas.List.{length_push}
use mir.Syntax.{w128}
use Rattle.dcc_act.specs.declared.outcome.ServiceAnswer.{ServiceAnswer}
use Rattle.dcc_model.specs.Money.{room}
use Rattle.dcc_model.specs.Outcomes.{answer_to, answers}
use Rattle.dcc_model.proofs.Answering.{count_answered, answer_ids, answers_more, ids_more}
use Rattle.dcc_model.proofs.granting.answers.Goals as goal

pub loop-service-preserved : goal.loop-service-preserved
loop-service-preserved c =
    let terms = c.args.terms.now in
    let past = reverse c.args.past.now in
    let sid = c.args.sid.now in
    let all = c.args.services.now in
    let before = c.loop-service.answers.items in
    let i = c.loop-service.service-index in
    let service = c.service-item.result in
    let answer = c.in_ok-answer_to.field-0 in
    let found = c.in_ok-space.ensures ∙ ap (room terms past sid all) c.deref.ensures.value in
    let space : to_z w128 (of_z w128 c.in_ok-space.space) ≡ room terms past sid all before = omega (arith, ints) in
    let answer_is = c.in_ok-answer_to.ensures ∙ ap (answer_to terms past sid service) space in
    let pushed = c.in_ok-push.ensures.items in
    let ids = ap (λ (a : ServiceAnswer). a.ids) answer_is ∙ answer_ids terms past sid service (room terms past sid all before) in
    record {
      value =
          c.loop-service.invariant.value ∙ answers_more terms past sid all before i service answer (omega arith) c.service-item.is answer_is
          ∙ sym (ap (λ (made : List ServiceAnswer). made ++ answers terms past sid all made (drop (i + 1) all)) pushed);
      as_many = ap (λ (made : List ServiceAnswer). length made) pushed ∙ length_push before answer ∙ ap (λ (n : ℕ). n + 1) c.loop-service.invariant.as_many;
      ids = ap count_answered pushed ∙ ids_more all before i service answer (omega arith) c.service-item.is ids c.loop-service.invariant.ids;
    }
