-- Limits of the outcomes of a request's services.
use Rattle.std.specs.Prelude.{◌≤◌, List, length, sum_by}
use Rattle.dcc_act.specs.declared.limits.TheConstants.{MAX_SERVICES, MAX_IDS}
use Rattle.dcc_act.specs.declared.outcome.ServiceAnswer.{ServiceAnswer}
use Rattle.dcc_act.specs.declared.service_key.ServiceKey.{ServiceKey}
use Rattle.dcc_act.specs.ServiceKeys.{key_of}

-- at most 32 services, and 5,460 identifiers together
pub record AreAnswers (answers : List ServiceAnswer) : Type 0 where
  pub few : length answers ≤ MAX_SERVICES
  pub few_ids : sum_by (λ answer. length answer.ids) answers ≤ MAX_IDS

-- the key of an answer's service among those of its session
abbrev pub answer_key : ServiceAnswer → ServiceKey
answer_key answer = key_of answer.group answer.ids
