-- An account, as contracts see it.
use Rattle.std.specs.Prelude.{List, map, reverse, ℤ, ◌-ℤ◌}
use Rattle.dcc_tariff.specs.Terms.{TermsView}
use Rattle.dcc_act.specs.declared.act.Act.{Act}
use Rattle.dcc_act.specs.declared.outcome.Outcome.{Outcome}
use Rattle.dcc_model.specs.Outcomes.{outcome_of, history, funds, free}
use Rattle.dcc_state.specs.OpenSessions.{SessionView}
use Rattle.dcc_account.specs.Memory.{Room}

-- an account: the acts that were made, the terms by which they are judged, the sessions that are open after them, and memory for
-- some more
pub record AccountView : Type 0 where
  pub terms : TermsView
  pub acts : List Act
  pub sessions : List SessionView
  pub room : Room

-- the outcomes of these acts, in their order
abbrev pub outcomes : TermsView → List Act → List Outcome
outcomes terms acts = reverse (map outcome_of (history terms (reverse acts)))

-- the reserved money: the prices of all live grants
abbrev pub reserved : TermsView → List Act → ℤ
reserved terms acts = funds terms acts -ℤ free terms acts
