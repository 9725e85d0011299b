-- The answers to the services of a request, one after another.
use Rattle.std.proofs.Common.{◌≡◌, ℕ, suc, ◌+◌, ◌<◌, List, [], ◌∷◌, ◌++◌, length, take, drop, get_or, sum_by, sym, ap, ◌∙◌, arith}
use Rattle.std.specs.Prelude.{ℤ}
use Rattle.std.proofs.lemmas.List.{take_more, append_assoc}
use Rattle.std.proofs.lemmas.List.Sums.{sum_by_push}
use Rattle.std.proofs.Math.Seq.{drop-cons}
use Rattle.dcc_act.specs.Services.{ServiceView}
use Rattle.dcc_act.specs.declared.outcome.ServiceAnswer.{ServiceAnswer}
use Rattle.dcc_session.specs.declared.held.Held.{Held}
use Rattle.dcc_state.specs.inner.Grants.{room_in, answer_to_in, answers_in}

-- one more service is answered in the room that those before leave
pub answers_more : (free : ℤ) (own : List Held) (services : List ServiceView) (before : List ServiceAnswer) (i : ℕ) (service : ServiceView) (answer : ServiceAnswer)
    → i < length services → service ≡ get_or services i service → answer ≡ answer_to_in own service (room_in free own services before)
    → before ++ answers_in free own services before (drop i services) ≡ (before ++ answer ∷ []) ++ answers_in free own services (before ++ answer ∷ []) (drop (i + 1) services)
answers_more free own services before i service answer within is answer_is =
    let next : suc i ≡ i + 1 = omega arith in
    let first : drop i services ≡ service ∷ drop (i + 1) services =
    drop-cons services i service within ∙ ap (λ (s : ServiceView). s ∷ drop (suc i) services) (sym is) ∙ ap (λ (n : ℕ). service ∷ drop n services) next in
    ap (λ (rest : List ServiceView). before ++ answers_in free own services before rest) first
    ∙ ap (λ (a : ServiceAnswer). before ++ a ∷ answers_in free own services (before ++ a ∷ []) (drop (i + 1) services)) (sym answer_is)
    ∙ sym (append_assoc before (answer ∷ []) (answers_in free own services (before ++ answer ∷ []) (drop (i + 1) services)))

-- and with its identifiers
pub ids_more : (services : List ServiceView) (made : List ServiceAnswer) (i : ℕ) (service : ServiceView) (answer : ServiceAnswer) → i < length services → service ≡ get_or services i service
    → answer.ids ≡ service.ids → sum_by (λ (a : ServiceAnswer). length a.ids) made ≡ sum_by (λ (s : ServiceView). length s.ids) (take i services)
    → sum_by (λ (a : ServiceAnswer). length a.ids) (made ++ answer ∷ []) ≡ sum_by (λ (s : ServiceView). length s.ids) (take (i + 1) services)
ids_more services made i service answer within is ids before =
    let count : List ServiceView → ℕ = sum_by (λ (s : ServiceView). length s.ids) in
    sum_by_push (λ (a : ServiceAnswer). length a.ids) made answer
    ∙ ap (λ (n : ℕ). n + length answer.ids) before ∙ ap (λ (found : List ℕ). count (take i services) + length found) ids
    ∙ sym (ap count (take_more services i service within) ∙ ap (λ (s : ServiceView). count (take i services ++ s ∷ [])) (sym is) ∙ sum_by_push (λ (s : ServiceView). length s.ids) (take i services) service)
