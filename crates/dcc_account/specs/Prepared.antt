-- A step that is prepared and not yet installed.
use Rattle.std.specs.Prelude.{ℕ, ◌+◌, ◌≡◌, Bool, true, List, [], ◌∷◌, ◌++◌, length, reverse, Option}
use Rattle.dcc_act.specs.declared.act.Act.{Act}
use Rattle.dcc_act.specs.declared.entry.Entry.{Entry}
use Rattle.dcc_act.specs.declared.outcome.Outcome.{Outcome}
use Rattle.dcc_model.specs.Outcomes.{history, with_act, after, is_new, place, funds, free, overrun}
use Rattle.dcc_model.specs.Entries.{entries}
use Rattle.dcc_state.specs.declared.change.Change.{Change}
use Rattle.dcc_state.specs.declared.judgement.Judgement.{Judgement}
use Rattle.dcc_state.specs.Backed.{IsBacked}
use Rattle.dcc_state.specs.Known.{changed, funds_after, overrun_with}
use Rattle.dcc_state.specs.OpenSessions.{AreOpen}
use Rattle.dcc_account.specs.Accounts.{AccountView}
use Rattle.dcc_account.specs.Memory.{Space}
use Rattle.dcc_account.specs.Fits.{Fits}

-- an act, its outcome, whether it is made, its place, the entries that it adds, its change of the money and of the open sessions,
-- the number of live grants that were read, and the memory for all of this
pub record StepView : Type 0 where
  pub act : Act
  pub outcome : Outcome
  pub is_new : Bool
  pub place : Option ℕ
  pub entries : List Entry
  pub change : Change
  pub looks : ℕ
  pub space : Space

-- the outcome of the act, whether it is made, its place, the entries that it adds, and its change of the money and of the open sessions
pub record JudgementView : Type 0 where
  pub outcome : Outcome
  pub is_new : Bool
  pub place : Option ℕ
  pub entries : List Entry
  pub change : Change

abbrev pub in_view : Judgement → JudgementView
in_view judgement =
    record { outcome = judgement.outcome; is_new = judgement.is_new; place = judgement.place; entries = judgement.entries.items; change = judgement.change }

abbrev pub judgement_of : StepView → JudgementView
judgement_of step = record { outcome = step.outcome; is_new = step.is_new; place = step.place; entries = step.entries; change = step.change }

-- the judgement is that of the act after the acts of this account
pub record IsJudged (account : AccountView) (act : Act) (judgement : JudgementView) : Type 0 where
  pub outcome_is : judgement.outcome ≡ after account.terms account.acts act
  pub new_is : judgement.is_new ≡ is_new account.terms account.acts act
  pub place_is : judgement.place ≡ place account.terms account.acts act
  pub entries_are : entries account.terms (account.acts ++ act ∷ []) ≡ entries account.terms account.acts ++ judgement.entries
  pub funds_are : funds account.terms (account.acts ++ act ∷ []) ≡ funds_after judgement.change (funds account.terms account.acts) account.sessions
  pub overrun_are : overrun account.terms (account.acts ++ act ∷ []) ≡ overrun account.terms account.acts + overrun_with judgement.change account.sessions
  pub sessions_are : AreOpen account.terms (with_act account.terms (history account.terms (reverse account.acts)) act) (changed judgement.change account.sessions)
  pub backed : IsBacked (funds account.terms account.acts) (free account.terms account.acts) account.sessions judgement.change

-- the step is that of its act after the acts of this account, with memory for it
pub record IsPrepared (account : AccountView) (step : StepView) : Type 0 where
  pub judged : IsJudged account step.act (judgement_of step)
  pub fits : step.is_new ≡ true → Fits account step.space (length step.entries)
