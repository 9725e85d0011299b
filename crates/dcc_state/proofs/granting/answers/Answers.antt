use Rattle.std.proofs.Common.{◌≡◌, ℕ, to_z, of_z, ◌+◌, List, ◌++◌, drop, length, sum_by, sym, ap, ◌∙◌, arith}
use Rattle.std.proofs.lemmas.Int.{ints}
use Rattle.std.proofs.lemmas.List.{length_push}
use mir.Syntax.{w128}
use Rattle.dcc_act.specs.declared.outcome.ServiceAnswer.{ServiceAnswer}
use Rattle.dcc_state.specs.inner.Grants.{room_in, answer_to_in, answers_in}
use Rattle.dcc_state.proofs.Answering.{answers_more, ids_more}
use Rattle.dcc_state.proofs.granting.answers.Goals as goal

pub loop-service-preserved : goal.loop-service-preserved
loop-service-preserved c =
    let free = to_z w128 (of_z w128 c.args.free) in
    let own = c.args.own.now in
    let all = c.args.services.now in
    let before = c.loop-service.answers.items in
    let i = c.loop-service.service-index in
    let service = c.service-item.result in
    let answer = c.in_ok-answer_to.field-0 in
    let found = c.room-space.ensures ∙ ap (room_in free own all) c.deref.ensures.value in
    let space : to_z w128 (of_z w128 c.room-space.result) ≡ room_in free own all before = omega (arith, ints) in
    let answer_is = c.in_ok-answer_to.ensures.value ∙ ap (answer_to_in own service) space in
    let pushed = c.in_ok-push.ensures.items in
    record {
      value =
          c.loop-service.invariant.value ∙ answers_more free own all before i service answer (omega arith) c.service-item.is answer_is
          ∙ sym (ap (λ (made : List ServiceAnswer). made ++ answers_in free own all made (drop (i + 1) all)) pushed);
      as_many = ap (λ (made : List ServiceAnswer). length made) pushed ∙ length_push before answer ∙ ap (λ (n : ℕ). n + 1) c.loop-service.invariant.as_many;
      ids = ap (sum_by (λ (a : ServiceAnswer). length a.ids)) pushed ∙ ids_more all before i service answer (omega arith) c.service-item.is c.in_ok-answer_to.ensures.ids c.loop-service.invariant.ids;
    }
