-- The facts that an account keeps of the made acts, by which it judges the next one without looking back.
use Rattle.std.specs.Prelude.{◌≡◌, ℕ, ℤ, pos, neg_ℤ, ◌+ℤ◌, ◌-ℤ◌, ◌≤ℤ◌, Bool, false, not, List, [], ◌∷◌, ◌++◌, length, map, reverse, filter, sum_by, Option, Some, None, option_map}
use Rattle.dcc_escrow.specs.Pools.{PoolView}
use Rattle.dcc_tariff.specs.Terms.{TermsView}
use Rattle.dcc_act.specs.declared.act.Act.{Act}
use Rattle.dcc_act.specs.declared.outcome.Outcome.{Outcome}
use Rattle.dcc_act.specs.declared.request_key.RequestKey.{RequestKey}
use Rattle.dcc_model.specs.declared.decide.TheConstants.{CEILING}
use Rattle.dcc_model.specs.declared.done.Done.{Done}
use Rattle.dcc_model.specs.declared.judgement.Standing.{Standing}
use Rattle.dcc_model.specs.Keys.{request_key}
use Rattle.dcc_model.specs.Laws.{AreKeyed}
use Rattle.dcc_model.specs.Money.{reserved_of}
use Rattle.dcc_model.specs.Outcomes.{history, has_account, first_of, outcome_of, act_made, place_of_key, standing_of}
use Rattle.dcc_model.specs.Sessions.{was_opened}
use Rattle.dcc_session.specs.Grants.{prices, charges_in, overruns_in, left_of}
use Rattle.dcc_state.specs.declared.change.Change.{Change}
use Rattle.dcc_state.specs.declared.change.Change.TheVariants.{Nothing, Post, Open, End, Expire}
use Rattle.dcc_state.specs.declared.change.Turn.{Turn}
use Rattle.dcc_state.specs.declared.facts.Facts.{Facts}
use Rattle.dcc_state.specs.declared.limits.TheConstants.{POOL, FARTHEST}
use Rattle.dcc_state.specs.OpenSessions.{SessionView, is_session, own_in, is_over_at, AreOpen}

-- a session after its request's turn: with the grants of the turn, and the grants that its services don't give back
abbrev pub after_turn : Turn → List SessionView → SessionView
after_turn turn sessions =
    record { sid = turn.sid; deadline = turn.deadline; grants = turn.granted.grants ++ left_of (own_in sessions turn.sid) turn.services }

-- the sessions after a change
abbrev pub changed : Change → List SessionView → List SessionView
changed Nothing sessions = sessions
changed (Post credit debit) sessions = sessions
changed (Open turn) sessions = filter (λ other. not (is_session turn.sid other)) sessions ++ after_turn turn sessions ∷ []
changed (End sid services) sessions = filter (λ other. not (is_session sid other)) sessions
changed (Expire moment) sessions = filter (λ other. not (is_over_at moment other)) sessions

-- the funds after a change: with its credit, and less its debit and its charges
abbrev pub funds_after : Change → ℤ → List SessionView → ℤ
funds_after Nothing funds sessions = funds
funds_after (Post credit debit) funds sessions = (funds -ℤ pos debit) +ℤ pos credit
funds_after (Open turn) funds sessions = funds -ℤ pos (charges_in (own_in sessions turn.sid) turn.services)
funds_after (End sid services) funds sessions = funds -ℤ pos (charges_in (own_in sessions sid) services)
funds_after (Expire moment) funds sessions = funds

-- the overrun of a change
abbrev pub overrun_with : Change → List SessionView → ℕ
overrun_with Nothing sessions = 0
overrun_with (Post credit debit) sessions = 0
overrun_with (Open turn) sessions = overruns_in (own_in sessions turn.sid) turn.services
overrun_with (End sid services) sessions = overruns_in (own_in sessions sid) services
overrun_with (Expire moment) sessions = 0

-- the prices of the grants of a session
abbrev pub prices_of : SessionView → ℕ
prices_of session = prices session.grants

-- the pool is the account's, and its reserved money is the sum of the sessions' holds
pub record HoldsAll (pool : PoolView) (sessions : List SessionView) : Type 0 where
  pub id : pool.id ≡ POOL
  pub reserved : pool.reserved ≡ sum_by prices_of sessions

-- the known money, and the sum of the sessions' holds, are within the range of computations
pub record IsWithin (standing : Standing) (sessions : List SessionView) : Type 0 where
  pub funds_low : neg_ℤ CEILING ≤ℤ standing.funds
  pub funds_high : standing.funds ≤ℤ CEILING
  pub free_low : neg_ℤ FARTHEST ≤ℤ standing.free
  pub free_high : standing.free ≤ℤ CEILING
  pub overrun_low : pos 0 ≤ℤ standing.overrun
  pub overrun_high : standing.overrun ≤ℤ FARTHEST
  pub held : pos (sum_by prices_of sessions) ≤ℤ FARTHEST

-- the session of a request was opened; an act that is no request has none
abbrev pub was_opened_by : List Done → Option RequestKey → Bool
was_opened_by past None = false
was_opened_by past (Some key) = was_opened past key.sid

-- these are the facts by which an act is judged after the acts of this list
pub record IsKnown (terms : TermsView) (xs : List Act) (act : Act) (facts : Facts) (first : Option Outcome) (sessions : List SessionView) : Type 0 where
  pub keyed : AreKeyed xs
  pub count_is : facts.count ≡ length (history terms (reverse xs))
  pub account_is : facts.has_account ≡ has_account (history terms (reverse xs))
  pub opened_is : facts.was_opened ≡ was_opened_by (history terms (reverse xs)) (request_key act.kind)
  pub first_is : first ≡ option_map outcome_of (first_of (history terms (reverse xs)) act.kind)
  pub place_is : facts.place ≡ place_of_key (map act_made (history terms (reverse xs))) act.kind
  pub standing_is : facts.standing ≡ standing_of terms (history terms (reverse xs))
  pub sessions_are : AreOpen terms (history terms (reverse xs)) sessions

-- the money of an account is within the range of computations if its overrun is
abbrev pub MoneyIsWithin : Type 0
MoneyIsWithin = (terms : TermsView) (xs : List Act) (standing : Standing) (sessions : List SessionView) → AreKeyed xs
    → standing ≡ standing_of terms (history terms (reverse xs)) → AreOpen terms (history terms (reverse xs)) sessions
    → (standing.overrun +ℤ CEILING) ≤ℤ FARTHEST → IsWithin standing sessions

-- the reserved money is the sum of the open sessions' holds
abbrev pub SessionsHoldWhatIsReserved : Type 0
SessionsHoldWhatIsReserved = (terms : TermsView) (xs : List Act) (sessions : List SessionView) → AreOpen terms (history terms (reverse xs)) sessions
    → sum_by prices_of sessions ≡ reserved_of terms (history terms (reverse xs))
