use Rattle.std.proofs.Common.{◌≡◌, ◌+◌, ℤ, List, reverse, Option, refl, sym, ap, subst, ◌∙◌}
use Rattle.std.specs.Prelude.{Result, Ok, Err, IfOk}
use Rattle.std.proofs.lemmas.Result.{IfOk-at_ok}
use Rattle.dcc_act.specs.declared.act.Act.{Act}
use Rattle.dcc_act.specs.declared.outcome.Outcome.{Outcome}
use Rattle.dcc_model.specs.declared.judgement.Standing.{Standing}
use Rattle.dcc_model.specs.Outcomes.{after, is_new, place, standing, funds, overrun, history, with_act}
use Rattle.dcc_state.specs.declared.facts.Facts.{Facts}
use Rattle.dcc_state.specs.Known.{IsKnown, IsWithin, changed, funds_after, overrun_with}
use Rattle.dcc_state.specs.OpenSessions.{SessionView, AreApart, AreOpen, KeepsDeadlines}
use Rattle.dcc_account.specs.Accounts.{AccountView}
use Rattle.dcc_account.proofs.Steps.{entries_at, funds_at, overrun_at, funds_in, free_in, backed_by}
use Rattle.dcc_account.proofs.account.Account.judged.Goals as goal

-- what holds of a good result, where there is one
on_ok : {X E : Type 0} (result : Result X E) (holds : X → Type 0) → ((x : X) → result ≡ Ok x → holds x) → IfOk result holds
on_ok (Ok x) holds each = each x refl
on_ok (Err e) holds each = tt

-- what is known, of the sessions as they were handed on
known_of : (a b : AccountView) (act : Act) (facts : Facts) (first : Option Outcome) (given : List SessionView) → b ≡ a → given ≡ b.sessions
    → IsKnown a.terms a.acts act facts first a.sessions → IsKnown b.terms b.acts act facts first given
known_of a b act facts first given same handed is = rw (handed, same) is

within_of : (a b : AccountView) (money : Standing) (given : List SessionView) → b ≡ a → given ≡ b.sessions → IsWithin money a.sessions → IsWithin money given
within_of a b money given same handed is = rw (handed, same) is

pub judge-requires-clause-within : goal.judge-requires-clause-within
judge-requires-clause-within c = within_of _ _ _ _ c.self.view_is c.deref.ensures.value c.known.ensures.within

pub returns-clause-judged : goal.returns-clause-judged
unfolding after is_new place standing
returns-clause-judged c =
    let own = c.self.inside in
    let terms = own.terms in
    let xs = own.acts.acts in
    let act = c.args.act.now in
    let given = c.deref.result.now in
    let same = c.deref.ensures.value in
    let judged = c.judge.ensures in
    let known = known_of _ _ act _ _ given c.self.view_is same c.known.ensures.known in
    let money = known.standing_is in
    let funds_is = funds_in terms xs _ money in
    let free_is = free_in terms xs _ money in
    rw (← c.self.view_is)
    (on_ok c.judge.result _
    (λ found is.
    record {
      outcome_is = IfOk-at_ok _ is (judged.outcome xs known);
      new_is = IfOk-at_ok _ is (judged.is_new xs known);
      place_is = IfOk-at_ok _ is (judged.place xs known);
      entries_are = entries_at terms xs _ act (IfOk-at_ok _ is (judged.entries xs known));
      funds_are =
          funds_at terms xs act _ (IfOk-at_ok _ is (judged.funds xs known)) ∙ ap (λ (money : ℤ). funds_after found.change money given) funds_is
          ∙ ap (funds_after found.change (funds terms xs)) same;
      overrun_are =
          overrun_at terms xs act _ (IfOk-at_ok _ is (judged.overrun xs known)) ∙ ap (λ (sessions : List SessionView). overrun terms xs + overrun_with found.change sessions) same;
      backed = backed_by _ _ _ _ _ _ found.change (IfOk-at_ok _ is judged.backed) (sym funds_is) (sym free_is) (sym same);
      sessions_are =
          subst (λ (sessions : List SessionView). AreOpen terms (with_act terms (history terms (reverse xs)) act) (changed found.change sessions)) same (IfOk-at_ok _ is (judged.sessions xs known));
    }))

pub returns-clause-looks : goal.returns-clause-looks
returns-clause-looks c =
    let known = known_of _ _ c.args.act.now _ _ c.deref.result.now c.self.view_is c.deref.ensures.value c.known.ensures.known in
    rw (← c.self.view_is) (c.judge.ensures.looks _ known)

pub returns-clause-counted : goal.returns-clause-counted
returns-clause-counted c =
    let known = known_of _ _ c.args.act.now _ _ c.deref.result.now c.self.view_is c.deref.ensures.value c.known.ensures.known in
    rw (← c.self.view_is) (c.judge.ensures.counted _ known)

pub judge-requires-clause-apart : goal.judge-requires-clause-apart
judge-requires-clause-apart c = subst AreApart (sym c.deref.ensures.value) c.self.invariant.sessions_are.apart

pub judge-requires-clause-due : goal.judge-requires-clause-due
judge-requires-clause-due c = subst (KeepsDeadlines c.self.inside.due) (sym c.deref.ensures.value) c.self.invariant.due_are
