-- The outcome of a request of a session, by the grants of its session and the free money.
use Rattle.std.specs.Prelude.{ℕ, ◌+◌, ℤ, pos, ◌+ℤ◌, ◌-ℤ◌, Bool, List, [], ◌∷◌, ◌++◌, filter_map, sum_by, option_map}
use Rattle.dcc_act.specs.Services.{ServiceView, service_key}
use Rattle.dcc_act.specs.declared.entry.Entry.{Entry}
use Rattle.dcc_act.specs.declared.outcome.Outcome.{Outcome}
use Rattle.dcc_act.specs.declared.outcome.RequestType.{RequestType}
use Rattle.dcc_act.specs.declared.outcome.ServiceAnswer.{ServiceAnswer}
use Rattle.dcc_act.specs.declared.request_key.RequestKey.{RequestKey}
use Rattle.dcc_model.specs.Entries.{charge_entry}
use Rattle.dcc_model.specs.Money.{is_unrated_by, made_price}
use Rattle.dcc_model.specs.Outcomes.{answer_by, answered}
use Rattle.dcc_model.specs.Sessions.{Sid}
use Rattle.dcc_session.specs.declared.held.Held.{Held}
use Rattle.dcc_session.specs.Grants.{live_in, charge_in, charges_in, given_back}

abbrev pub is_unrated_in : List Held → ServiceView → Bool
is_unrated_in own service = is_unrated_by (live_in own (service_key service)) service

-- the room of the next service's grant: the free money and the grants given back, less the charges and the grants before
abbrev pub room_in : ℤ → List Held → List ServiceView → List ServiceAnswer → ℤ
room_in free own services before = (free +ℤ pos (given_back own services)) -ℤ pos (charges_in own services + sum_by made_price before)

abbrev pub answer_to_in : List Held → ServiceView → ℤ → ServiceAnswer
answer_to_in own service space = answer_by (live_in own (service_key service)) service space

abbrev pub answers_in : ℤ → List Held → List ServiceView → (before : List ServiceAnswer) → List ServiceView → List ServiceAnswer
answers_in free own services before [] = []
answers_in free own services before (service ∷ rest) =
    let answer = answer_to_in own service (room_in free own services before) in
    answer ∷ answers_in free own services (before ++ answer ∷ []) rest

abbrev pub served_in : ℤ → List Held → RequestType → RequestKey → List ServiceView → Outcome
served_in free own type key services = answered type key (answers_in free own services [] services)

-- the entries of the reports that are charged
abbrev pub charge_entries_in : List Held → ℕ → ℕ → Sid → List ServiceView → List Entry
charge_entries_in own place moment sid services = filter_map (λ service. option_map (charge_entry place moment sid service) (charge_in own service)) services
