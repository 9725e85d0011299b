use Rattle.std.proofs.Common.{◌≡◌, [], ◌++◌, length, take, drop, sum_by}
use Rattle.dcc_act.specs.Services.{ServiceView}
use Rattle.dcc_act.specs.declared.outcome.ServiceAnswer.{ServiceAnswer}
use Rattle.dcc_state.specs.inner.Grants.{answers_in}
use Rattle.dcc_state.proofs.granting.answers.Given as goal

abbrev pub invariant-loop-service : goal.invariant-loop-service
invariant-loop-service l = record {
  value : answers_in l.free l.own l.services [] l.services ≡ l.answers.items ++ answers_in l.free l.own l.services l.answers.items (drop l.service-index l.services);
  as_many : length l.answers.items ≡ l.service-index;
  ids : sum_by (λ (answer : ServiceAnswer). length answer.ids) l.answers.items
      ≡ sum_by (λ (service : ServiceView). length service.ids) (take l.service-index l.services);
}
