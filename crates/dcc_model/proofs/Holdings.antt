-- Live grants, answer by answer.
use Rattle.std.proofs.Common.{◌≡◌, ℕ, ◌+◌, ◌<◌, List, [], ◌∷◌, ◌++◌, length, take, get_or, refl, sym, ap, ◌∙◌, Some, None, append-nil}
use Rattle.std.specs.Prelude.{filter_map}
use Rattle.std.proofs.lemmas.List.{take_more}
use Rattle.std.proofs.lemmas.List.Elements.{filter_map-append}
use Rattle.dcc_act.specs.Answers.{answer_key}
use Rattle.dcc_act.specs.declared.grant.Grant.{Grant}
use Rattle.dcc_act.specs.declared.outcome.ServiceAnswer.{ServiceAnswer}
use Rattle.dcc_model.specs.Sessions.{Sid, live_of}

lives_more : (sid : Sid) (answers : List ServiceAnswer) (i : ℕ) (answer : ServiceAnswer) → i < length answers → answer ≡ get_or answers i answer
    → filter_map (live_of sid) (take (i + 1) answers) ≡ filter_map (live_of sid) (take i answers) ++ filter_map (live_of sid) (answer ∷ [])
lives_more sid answers i answer within is =
    ap (filter_map (live_of sid)) (take_more answers i answer within)
    ∙ filter_map-append (live_of sid) (take i answers) (get_or answers i answer ∷ [])
    ∙ ap (λ (a : ServiceAnswer). filter_map (live_of sid) (take i answers) ++ filter_map (live_of sid) (a ∷ [])) (sym is)

-- an answer that grants units
pub lives_granted : (sid : Sid) (answers : List ServiceAnswer) (i : ℕ) (answer : ServiceAnswer) (grant : Grant) → i < length answers → answer ≡ get_or answers i answer
    → answer.grant ≡ Some grant
    → filter_map (live_of sid) (take (i + 1) answers) ≡ filter_map (live_of sid) (take i answers) ++ record { sid = sid; key = answer_key answer; grant = grant } ∷ []
lives_granted sid answers i answer grant within is granted = lives_more sid answers i answer within is ∙ rw granted refl

-- and one that grants none
pub lives_refused : (sid : Sid) (answers : List ServiceAnswer) (i : ℕ) (answer : ServiceAnswer) → i < length answers → answer ≡ get_or answers i answer
    → answer.grant ≡ None
    → filter_map (live_of sid) (take (i + 1) answers) ≡ filter_map (live_of sid) (take i answers)
lives_refused sid answers i answer within is refused = lives_more sid answers i answer within is ∙ rw refused (append-nil (filter_map (live_of sid) (take i answers)))
