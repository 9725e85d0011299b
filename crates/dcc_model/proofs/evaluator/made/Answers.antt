use Rattle.std.proofs.Common.{◌≡◌, ℕ, ◌+◌, ◌<◌, Bool, true, cond, List, [], ◌∷◌, ◌++◌, length, take, get_or, reverse, sym, ap, ◌∙◌, arith, Vec, Global}
use Rattle.std.proofs.lemmas.List.{take_more, reverse-append}
use Rattle.dcc_tariff.specs.Terms.{TermsView}
use Rattle.dcc_act.specs.declared.act.Act.{Act}
use Rattle.dcc_act.specs.declared.outcome.Outcome.{Outcome}
use Rattle.dcc_model.specs.declared.done.Done.{Done}
use Rattle.dcc_model.specs.Outcomes.{is_made, judged, with_act, history}
use Rattle.dcc_model.proofs.evaluator.made.Goals as goal
use Rattle.dcc_model.proofs.evaluator.made.Goals.{then-is_made+in_ok-outcome+in_ok-act+in_ok-push, else-is_made}

-- one more act, looked at from the end
latest_first : (acts : List Act) (i : ℕ) (act : Act) → i < length acts → act ≡ get_or acts i act → reverse (take (i + 1) acts) ≡ act ∷ reverse (take i acts)
latest_first acts i act within is =
    ap reverse (take_more acts i act within) ∙ reverse-append (take i acts) (get_or acts i act ∷ []) ∙ ap (λ (a : Act). a ∷ reverse (take i acts)) (sym is)

-- what was made with it
one_more : (terms : TermsView) (acts : List Act) (i : ℕ) (act : Act) (past : List Done) → i < length acts → act ≡ get_or acts i act → past ≡ history terms (reverse (take i acts))
    → history terms (reverse (take (i + 1) acts)) ≡ with_act terms past act
one_more terms acts i act past within is past_is =
    ap (history terms) (latest_first acts i act within is) ∙ ap (λ (before : List Done). with_act terms before act) (sym past_is)

with_new : (terms : TermsView) (past made : List Done) (act act' : Act) (outcome : Outcome) → is_made terms (reverse past) act ≡ true → act' ≡ act → outcome ≡ judged terms (reverse past) act
    → made ≡ past ++ record { act = act'; outcome = outcome } ∷ [] → reverse made ≡ with_act terms (reverse past) act
with_new terms past made act act' outcome new act_is outcome_is made_is =
    ap reverse made_is ∙ reverse-append past (record { act = act'; outcome = outcome } ∷ [])
    ∙ ap (λ (a : Act). record { act = a; outcome = outcome } ∷ reverse past) act_is
    ∙ ap (λ (o : Outcome). record { act = act; outcome = o } ∷ reverse past) outcome_is
    ∙ sym (ap (λ (b : Bool). cond b (record { act = act; outcome = judged terms (reverse past) act } ∷ reverse past) (reverse past)) new)

pub loop-act-preserved : goal.loop-act-preserved
loop-act-preserved c =
    let terms = c.args.terms.now in
    let past = c.loop-act.past.items in
    let act = c.act-item.result in
    let more = one_more terms c.args.acts.now c.loop-act.act-index act (reverse past) (omega arith) c.act-item.is c.loop-act.invariant in
    let seen = ap (λ (p : List Done). is_made terms (reverse p) act) (sym c.deref.ensures.value) in
    elim c.if-is_made.branch [
      | then-is_made+in_ok-outcome+in_ok-act+in_ok-push w ↦
          let outcome_is = w.in_ok-outcome.ensures ∙ ap (λ (p : List Done). judged terms (reverse p) act) w.deref-then-is_made.ensures.value in
          ap (λ (v : Vec Done Global). reverse v.items) w.past-is
          ∙ with_new terms past _ act w.in_ok-act.act w.in_ok-outcome.outcome (seen ∙ sym w.if-is_made.ensures) w.in_ok-act.ensures outcome_is w.in_ok-push.ensures.items
          ∙ sym more
      | else-is_made w ↦
          ap (λ (v : Vec Done Global). reverse v.items) w.past-is
          ∙ sym (ap (λ (b : Bool). cond b (record { act = act; outcome = judged terms (reverse past) act } ∷ reverse past) (reverse past)) (seen ∙ sym w.if-is_made.ensures))
          ∙ sym more
    ]
