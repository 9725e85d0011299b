use Rattle.std.proofs.Common.{◌≡◌, ◌≤◌, ◌*◌, length, take, sum_by}
use Rattle.dcc_act.specs.declared.outcome.ServiceAnswer.{ServiceAnswer}
use Rattle.dcc_act.specs.declared.limits.TheConstants.{MAX_IDS}
use Rattle.dcc_act.proofs.service_answers.count_ids.Given as goal

abbrev pub invariant-loop-answer : goal.invariant-loop-answer
invariant-loop-answer l = record {
  counted : l.count ≡ sum_by (λ (answer : ServiceAnswer). length answer.ids) (take l.answer-index l.items);
  bound : l.count ≤ MAX_IDS * l.answer-index;
}
