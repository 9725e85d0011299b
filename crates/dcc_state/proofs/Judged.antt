-- What an act comes to and does, by what is known, is what it comes to and does by the definitions.
use Rattle.std.proofs.Common.{◌≡◌, ℕ, ◌+◌, Bool, true, false, cond, List, [], ◌∷◌, length, reverse, refl, sym, ap, subst, ◌∙◌, inl, inr, Option, Some, arith}
use Rattle.std.specs.Prelude.{Result, Ok, Err, IfOk}
use Rattle.std.proofs.lemmas.Bool.{cases_Bool}
use Rattle.std.proofs.lemmas.Int.{ints}
use Rattle.dcc_tariff.specs.Terms.{TermsView}
use Rattle.dcc_act.specs.declared.act.Act.{Act}
use Rattle.dcc_act.specs.declared.entry.Entry.{Entry}
use Rattle.dcc_act.specs.declared.outcome.Outcome.{Outcome}
use Rattle.dcc_model.specs.declared.done.Done.{Done}
use Rattle.dcc_model.specs.declared.judgement.Standing.{Standing}
use Rattle.dcc_model.specs.Entries.{entries_of_kind, entries_with}
use Rattle.dcc_model.specs.Laws.{NewAreDecided, SessionsOpenOnce, LiveAreOpen, LiveIsFound}
use Rattle.dcc_model.specs.Money.{funds_of, overrun_of}
use Rattle.dcc_model.specs.Outcomes.{judged, is_made, place_of, with_act, history}
use Rattle.dcc_state.specs.declared.change.Change.{Change}
use Rattle.dcc_state.specs.declared.change.Change.TheVariants.{Nothing}
use Rattle.dcc_state.specs.declared.facts.Facts.{Facts}
use Rattle.dcc_state.specs.Known.{changed, funds_after, overrun_with, IsKnown}
use Rattle.dcc_state.specs.OpenSessions.{SessionView, AreOpen}
use Rattle.dcc_state.specs.inner.Judged.{judged_in, is_made_in, place_in, entries_by_in, entries_after, change_of, change_after}
use Rattle.dcc_state.proofs.Decided.{Knows, judged_is, made_is, charged_is, overran_is, entries_is}
use Rattle.dcc_state.proofs.NewSessions.{change_is}
use Rattle.dcc_state.proofs.Money.{funds_with, overrun_is}

pub knows : LiveIsFound → LiveAreOpen → SessionsOpenOnce → (terms : TermsView) (xs : List Act) (act : Act) (facts : Facts) (first : Option Outcome) (sessions : List SessionView)
    → IsKnown terms xs act facts first sessions → Knows terms (history terms (reverse xs)) facts.standing sessions
knows found are_open once terms xs act facts first sessions known = record {
  sound = record { found = found terms xs known.keyed; are_open = are_open terms xs };
  once = once terms xs;
  standing_is = known.standing_is;
  sessions_are = known.sessions_are;
}

pub outcome_at : (terms : TermsView) (xs : List Act) (act : Act) (facts : Facts) (first : Option Outcome) (sessions : List SessionView) → IsKnown terms xs act facts first sessions
    → Knows terms (history terms (reverse xs)) facts.standing sessions → (outcome : Outcome) → outcome ≡ judged_in facts first sessions act → outcome ≡ judged terms (history terms (reverse xs)) act
outcome_at terms xs act facts first sessions known knows outcome is =
    is ∙ judged_is terms (history terms (reverse xs)) facts first sessions act knows known.opened_is known.account_is known.first_is

pub new_at : (terms : TermsView) (xs : List Act) (act : Act) (facts : Facts) (first : Option Outcome) (sessions : List SessionView) → IsKnown terms xs act facts first sessions
    → Knows terms (history terms (reverse xs)) facts.standing sessions → (new : Bool) → new ≡ is_made_in facts first sessions act → new ≡ is_made terms (history terms (reverse xs)) act
new_at terms xs act facts first sessions known knows new is = is ∙ made_is terms (history terms (reverse xs)) facts first sessions act knows known.account_is known.first_is

pub place_at : (terms : TermsView) (xs : List Act) (act : Act) (facts : Facts) (first : Option Outcome) (sessions : List SessionView) → IsKnown terms xs act facts first sessions
    → (new : Bool) → new ≡ is_made terms (history terms (reverse xs)) act → (place : Option ℕ) → place ≡ place_in facts new → place ≡ place_of terms (history terms (reverse xs)) act
place_at terms xs act facts first sessions known new new_is place is =
    let with : Bool → ℕ → Option ℕ → Option ℕ = λ b count other. cond b (Some (count + 1)) other in
    is ∙ ap (λ (b : Bool). with b facts.count facts.place) new_is
    ∙ ap (λ (count : ℕ). with (is_made terms (history terms (reverse xs)) act) count facts.place) known.count_is
    ∙ ap (with (is_made terms (history terms (reverse xs)) act) (length (history terms (reverse xs)))) known.place_is

pub entries_at : (terms : TermsView) (xs : List Act) (act : Act) (facts : Facts) (first : Option Outcome) (sessions : List SessionView) → IsKnown terms xs act facts first sessions
    → Knows terms (history terms (reverse xs)) facts.standing sessions → (new : Bool) → new ≡ is_made terms (history terms (reverse xs)) act
    → (outcome : Outcome) → outcome ≡ judged terms (history terms (reverse xs)) act
    → (entries : List Entry) → entries ≡ entries_after facts sessions act new outcome → entries ≡ entries_with terms (history terms (reverse xs)) act
entries_at terms xs act facts first sessions known knows new new_is outcome outcome_is entries is =
    let past = history terms (reverse xs) in
    let with : Bool → List Entry → List Entry = λ b found. cond b found [] in
    is ∙ ap (λ (b : Bool). with b (entries_by_in sessions (facts.count + 1) act.moment act.kind outcome)) new_is
    ∙ ap (with (is_made terms past act))
    (entries_is terms past facts.standing sessions knows (facts.count + 1) act.moment act.kind outcome
    ∙ ap (λ (count : ℕ). entries_of_kind terms past (count + 1) act.moment act.kind outcome) known.count_is
    ∙ ap (λ (o : Outcome). entries_of_kind terms past (length past + 1) act.moment act.kind o) outcome_is)

new_sessions : NewAreDecided → (terms : TermsView) (xs : List Act) (act : Act) (standing : Standing) (sessions : List SessionView) → Knows terms (history terms (reverse xs)) standing sessions
    → (outcome : Outcome) → outcome ≡ judged terms (history terms (reverse xs)) act → is_made terms (history terms (reverse xs)) act ≡ true
    → AreOpen terms (record { act = act; outcome = outcome } ∷ history terms (reverse xs)) (changed (change_of terms sessions act.moment act.kind outcome) sessions)
new_sessions decided_law terms xs act standing sessions knows outcome outcome_is made =
    change_is terms (history terms (reverse xs)) standing sessions knows act.moment act.kind outcome (outcome_is ∙ decided_law terms xs act made)

with_made : (terms : TermsView) (past : List Done) (act : Act) (outcome : Outcome) → outcome ≡ judged terms past act → is_made terms past act ≡ true
    → with_act terms past act ≡ record { act = act; outcome = outcome } ∷ past
with_made terms past act outcome is made = rw made (ap (λ (o : Outcome). record { act = act; outcome = o } ∷ past) (sym is))

with_old : (terms : TermsView) (past : List Done) (act : Act) → is_made terms past act ≡ false → with_act terms past act ≡ past
with_old terms past act old = rw old refl

pub sessions_at : NewAreDecided → (terms : TermsView) (xs : List Act) (act : Act) (facts : Facts) (sessions : List SessionView)
    → Knows terms (history terms (reverse xs)) facts.standing sessions → (new : Bool) → new ≡ is_made terms (history terms (reverse xs)) act
    → (outcome : Outcome) → outcome ≡ judged terms (history terms (reverse xs)) act → (change : Change) → change ≡ change_after terms sessions act new outcome
    → AreOpen terms (with_act terms (history terms (reverse xs)) act) (changed change sessions)
sessions_at decided_law terms xs act facts sessions knows new new_is outcome outcome_is change is =
    let past = history terms (reverse xs) in
    elim (cases_Bool (is_made terms past act)) [
      | inl t ↦
          let change_is : change ≡ change_of terms sessions act.moment act.kind outcome = is ∙ ap (λ (b : Bool). change_after terms sessions act b outcome) (new_is ∙ t) in
          subst (λ (before : List Done). AreOpen terms before (changed change sessions)) (sym (with_made terms past act outcome outcome_is t))
          (subst (λ (c : Change). AreOpen terms (record { act = act; outcome = outcome } ∷ past) (changed c sessions)) (sym change_is)
          (new_sessions decided_law terms xs act facts.standing sessions knows outcome outcome_is t))
      | inr f ↦
          let change_is : change ≡ Nothing = is ∙ ap (λ (b : Bool). change_after terms sessions act b outcome) (new_is ∙ f) in
          subst (λ (before : List Done). AreOpen terms before (changed change sessions)) (sym (with_old terms past act f))
          (subst (λ (c : Change). AreOpen terms past (changed c sessions)) (sym change_is) knows.sessions_are)
    ]

-- the funds after an act, and what is overrun then
pub funds_at : (terms : TermsView) (xs : List Act) (act : Act) (facts : Facts) (sessions : List SessionView)
    → Knows terms (history terms (reverse xs)) facts.standing sessions → (new : Bool) → new ≡ is_made terms (history terms (reverse xs)) act
    → (outcome : Outcome) → outcome ≡ judged terms (history terms (reverse xs)) act → (change : Change) → change ≡ change_after terms sessions act new outcome
    → funds_of terms (with_act terms (history terms (reverse xs)) act) ≡ funds_after change facts.standing.funds sessions
funds_at terms xs act facts sessions knows new new_is outcome outcome_is change is =
    let past = history terms (reverse xs) in
    let before = ap (λ (s : Standing). s.funds) knows.standing_is in
    elim (cases_Bool (is_made terms past act)) [
      | inl t ↦
          let done : Done = record { act = act; outcome = outcome } in
          let change_is : change ≡ change_of terms sessions act.moment act.kind outcome = is ∙ ap (λ (b : Bool). change_after terms sessions act b outcome) (new_is ∙ t) in
          let charged = charged_is terms past facts.standing sessions knows done in
          let with = funds_with terms sessions facts.standing.funds act.moment act.kind outcome in
          let one : funds_of terms (done ∷ past) ≡ funds_after (change_of terms sessions act.moment act.kind outcome) facts.standing.funds sessions = omega (arith, ints) in
          ap (funds_of terms) (with_made terms past act outcome outcome_is t) ∙ one ∙ sym (ap (λ (c : Change). funds_after c facts.standing.funds sessions) change_is)
      | inr f ↦
          let change_is : change ≡ Nothing = is ∙ ap (λ (b : Bool). change_after terms sessions act b outcome) (new_is ∙ f) in
          ap (funds_of terms) (with_old terms past act f) ∙ sym before ∙ sym (ap (λ (c : Change). funds_after c facts.standing.funds sessions) change_is)
    ]

pub overrun_at : (terms : TermsView) (xs : List Act) (act : Act) (facts : Facts) (sessions : List SessionView)
    → Knows terms (history terms (reverse xs)) facts.standing sessions → (new : Bool) → new ≡ is_made terms (history terms (reverse xs)) act
    → (outcome : Outcome) → outcome ≡ judged terms (history terms (reverse xs)) act → (change : Change) → change ≡ change_after terms sessions act new outcome
    → overrun_of terms (with_act terms (history terms (reverse xs)) act) ≡ overrun_of terms (history terms (reverse xs)) + overrun_with change sessions
overrun_at terms xs act facts sessions knows new new_is outcome outcome_is change is =
    let past = history terms (reverse xs) in
    elim (cases_Bool (is_made terms past act)) [
      | inl t ↦
          let done : Done = record { act = act; outcome = outcome } in
          let change_is : change ≡ change_of terms sessions act.moment act.kind outcome = is ∙ ap (λ (b : Bool). change_after terms sessions act b outcome) (new_is ∙ t) in
          let same = overrun_is terms sessions act.moment act.kind outcome ∙ overran_is terms past facts.standing sessions knows done in
          ap (overrun_of terms) (with_made terms past act outcome outcome_is t) ∙ ap (λ (n : ℕ). overrun_of terms past + n) (sym same)
          ∙ sym (ap (λ (c : Change). overrun_of terms past + overrun_with c sessions) change_is)
      | inr f ↦
          let change_is : change ≡ Nothing = is ∙ ap (λ (b : Bool). change_after terms sessions act b outcome) (new_is ∙ f) in
          let none : overrun_of terms past ≡ overrun_of terms past + 0 = omega arith in
          ap (overrun_of terms) (with_old terms past act f) ∙ none ∙ sym (ap (λ (c : Change). overrun_of terms past + overrun_with c sessions) change_is)
    ]

-- what holds of a value holds of it together
pub both : {X E : Type 0} (result : Result X E) (P Q : X → Type 0) → IfOk result P → IfOk result Q → IfOk result (λ x. P x × Q x)
both (Ok x) P Q p q = (p, q)
both (Err e) P Q p q = tt
