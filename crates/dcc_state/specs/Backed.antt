-- The backing of a change: the money that it needs, and the services that it grants to.
use Rattle.std.specs.Prelude.{◌≡◌, ℕ, ◌≤◌, ℤ, pos, neg_ℤ, ◌+ℤ◌, ◌-ℤ◌, ◌≤ℤ◌, true, List, length, map, Option, option_map, ◌⊎◌}
use Rattle.std.specs.List.{AllByRecursion}
use Rattle.dcc_act.specs.Answers.{answer_key}
use Rattle.dcc_act.specs.ServiceKeys.{are_apart}
use Rattle.dcc_act.specs.Services.{ServiceView}
use Rattle.dcc_act.specs.declared.outcome.ServiceAnswer.{ServiceAnswer}
use Rattle.dcc_model.specs.declared.decide.TheConstants.{CEILING}
use Rattle.dcc_session.specs.declared.held.Held.{Held}
use Rattle.dcc_session.specs.Grants.{key_of_held, prices, charges_in, given_back, is_given_back}
use Rattle.dcc_state.specs.declared.change.Change.{Change}
use Rattle.dcc_state.specs.declared.change.Change.TheVariants.{Nothing, Post, Open, End, Expire}
use Rattle.dcc_state.specs.declared.change.Turn.{Turn}
use Rattle.dcc_state.specs.OpenSessions.{SessionView, own_in}

-- the grant that an answer made
abbrev pub held_by : ServiceAnswer → Option Held
held_by answer = option_map (λ grant. record { key = answer_key answer; grant = grant }) answer.grant

-- the funds bear the charges of a request's reports
abbrev pub IsBorne : ℤ → List Held → List ServiceView → Type 0
IsBorne funds own services = neg_ℤ CEILING ≤ℤ (funds -ℤ pos (charges_in own services))

-- the price of a request's grants is 0, or the free money covers it, with the price of the grants that its services give back,
-- and less their charges
abbrev pub IsAffordable : ℤ → List Held → List ServiceView → List Held → Type 0
IsAffordable free own services made =
    (prices made ≡ 0) ⊎ (pos (prices made) ≤ℤ ((free +ℤ pos (given_back own services)) -ℤ pos (charges_in own services)))

-- a session has its turn if the funds bear its charges and the free money covers its grants; these are to named services, to none
-- twice, with room for all grants that the session holds, and the turn has the session's name twice
pub record GoesOn (funds free : ℤ) (own : List Held) (turn : Turn) : Type 0 where
  pub borne : IsBorne funds own turn.services
  pub affordable : IsAffordable free own turn.services turn.granted.grants
  pub apart : are_apart (map key_of_held turn.granted.grants) ≡ true
  pub named : AllByRecursion (λ held. is_given_back turn.services held ≡ true) turn.granted.grants
  pub room : length own ≤ turn.granted.room
  pub named_so : turn.name ≡ turn.sid

-- the debit is 0 or within the free money, and the credit leaves the funds at the ceiling or below
pub record IsPosted (funds free : ℤ) (credit debit : ℕ) : Type 0 where
  pub covered : (debit ≡ 0) ⊎ (pos debit ≤ℤ free)
  pub below : ((funds -ℤ pos debit) +ℤ pos credit) ≤ℤ CEILING

-- so the money bears a change; a session ends on funds that bear its charges
abbrev pub IsBacked : (funds free : ℤ) → List SessionView → Change → Type 0
IsBacked funds free sessions Nothing = Unit {0}
IsBacked funds free sessions (Post credit debit) = IsPosted funds free credit debit
IsBacked funds free sessions (Open turn) = GoesOn funds free (own_in sessions turn.sid) turn
IsBacked funds free sessions (End sid services) = IsBorne funds (own_in sessions sid) services
IsBacked funds free sessions (Expire moment) = Unit {0}
