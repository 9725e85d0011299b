-- How many octets the services of an answer take at most.
use Rattle.std.proofs.Common.{◌≡◌, ℕ, ◌+◌, ◌*◌, ◌≤◌, List, [], ◌∷◌, length, arith}
use Rattle.std.specs.List.{sum_by}
use Rattle.std.proofs.lemmas.List.Sums.{sum_by-cons}
use Rattle.dcc_act.specs.declared.limits.TheConstants.{MAX_IDS}
use Rattle.dcc_act.specs.Answers.{AreAnswers}
use Rattle.dcc_act.specs.declared.outcome.ServiceAnswer.{ServiceAnswer}

abbrev pub most_of : ServiceAnswer → ℕ
most_of service = 150 + 15 * length service.ids

abbrev pub ids_of : ServiceAnswer → ℕ
ids_of service = length service.ids

pub sum_of_most : (services : List ServiceAnswer) → sum_by most_of services ≡ 150 * length services + 15 * sum_by ids_of services
sum_of_most [] = omega arith
sum_of_most (service ∷ services) =
    let here = sum_by-cons most_of service services in
    let ids = sum_by-cons ids_of service services in
    let rest = sum_of_most services in
    omega arith

pub most_of_answers : (services : List ServiceAnswer) → AreAnswers services → sum_by most_of services ≤ 90_000
most_of_answers services h =
    let all = sum_of_most services in
    let few = h.few in
    let ids : sum_by ids_of services ≤ MAX_IDS = h.few_ids in
    omega arith
