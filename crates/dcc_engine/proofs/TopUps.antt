-- One top-up, from what the shard told and left.
use Rattle.std.proofs.Common.{◌≡◌, ℕ, Bool, true, false, if◌then◌else◌, ◌∷◌, [], ◌++◌, Option, Some, None, ◌⊎◌, refl, sym, ap, subst, ◌∙◌, inl, inr}
use Rattle.std.proofs.lemmas.Bool.{cases_Bool}
use Rattle.dcc_tariff.specs.Terms.{TermsView}
use Rattle.dcc_act.specs.Subs.{same_sub, SameAreEqual}
use Rattle.dcc_act.specs.TopUps.{is_amount}
use Rattle.dcc_act.specs.declared.act.Act.{Act}
use Rattle.dcc_act.specs.declared.outcome.Outcome.{Outcome}
use Rattle.dcc_act.specs.declared.outcome.Outcome.TheVariants as outcomes
use Rattle.dcc_act.specs.declared.sub.Sub.{Sub}
use Rattle.dcc_model.specs.Outcomes.{acts, after, place, is_new}
use Rattle.dcc_shard.specs.Shards.{ShardView, held, held_after, AreOwn, IsStep}
use Rattle.dcc_shard.specs.Answers.{told, told_after, top_up_act, is_judged_top_up, IsTold}
use Rattle.dcc_shard.specs.declared.answers.TopUpAnswer.{TopUpAnswer}
use Rattle.dcc_shard.specs.declared.answers.TopUpAnswer.TheVariants.{Done, Ceiling, Refused, BadAmount}
use Rattle.dcc_dispatch.specs.Settings.{Setting}
use Rattle.dcc_engine.specs.Asks.{Ask, out_top_up, is_refused_top_up}
use Rattle.dcc_engine.specs.Asks.Said.{Told}
use Rattle.dcc_engine.specs.Asks.Source.{TopUp}
use Rattle.dcc_engine.specs.inner.Turns.{IsJudged, now_with}
use Rattle.dcc_engine.specs.declared.event.Event.TheVariants as events
use Rattle.dcc_base.specs.declared.peer.Peer.{Peer}

-- what is told of an outcome is no refusal, and was judged
told_counts : (outcome : Outcome) (at : Option ℕ) (fresh : Bool) (answer : TopUpAnswer) → Some answer ≡ told outcome at fresh → (is_refused_top_up (Some answer) ≡ false) × (is_judged_top_up answer ≡ true)
told_counts outcome None fresh answer is = absurd cc
told_counts outcomes.Added (Some at) fresh answer is = let one : answer ≡ Done at fresh = cc in (ap (λ (a : TopUpAnswer). is_refused_top_up (Some a)) one, ap is_judged_top_up one)
told_counts outcomes.Ceiling (Some at) fresh answer is = let one : answer ≡ Ceiling at fresh = cc in (ap (λ (a : TopUpAnswer). is_refused_top_up (Some a)) one, ap is_judged_top_up one)
told_counts (outcomes.Unknown request key) (Some at) fresh answer is = absurd cc
told_counts (outcomes.Answered given) (Some at) fresh answer is = absurd cc
told_counts (outcomes.Expired sessions) (Some at) fresh answer is = absurd cc

-- what a top-up asks of a subscriber, where its amount may be
top_up_asks : SameAreEqual → (owner sub : Sub) (asked ask : Ask) → (if same_sub owner sub then Some asked else None) ≡ Some ask → (owner ≡ sub) × (ask ≡ asked)
top_up_asks law owner sub asked ask is =
    elim (cases_Bool (same_sub owner sub)) [
      | inl t ↦ (let e = rw t at is in ((law owner sub).0 t, cc))
      | inr f ↦ (let e = rw f at is in absurd cc)
    ]

abbrev pub Judged : Setting → (ℕ → Option Peer) → ShardView → ShardView → ℕ → Sub → ℕ → ℕ → TopUpAnswer → Type 0
Judged setting peers old new moment sub ticket amount answer =
    IsJudged setting (now_with peers old) (held new) (record { event = events.TopUp moment sub ticket amount; out = out_top_up answer })

told_judged : SameAreEqual → (setting : Setting) (peers : ℕ → Option Peer) (old new : ShardView) (moment : ℕ) (sub : Sub) (ticket amount : ℕ) (answer : TopUpAnswer) → is_amount amount ≡ true
    → old.terms ≡ setting.plan.terms → ((s : Sub) → acts setting.plan.terms (held old s) ≡ held old s)
    → Some answer ≡ told_after old.terms (held old sub) (top_up_act moment ticket amount) → IsStep old new (is_judged_top_up answer) sub (top_up_act moment ticket amount)
    → Judged setting peers old new moment sub ticket amount answer
told_judged law setting peers old new moment sub ticket amount answer may terms own is step =
    let act = top_up_act moment ticket amount in
    let here : Some answer ≡ told_after setting.plan.terms (held old sub) act = is ∙ ap (λ (t : TermsView). told_after t (held old sub) act) terms in
    let counts = told_counts (after old.terms (held old sub) act) (place old.terms (held old sub) act) (is_new old.terms (held old sub) act) answer is in
    record {
      next = record {
        subscribers = λ other ask asks_it.
            let asks = top_up_asks law sub other (record { act = act; source = TopUp }) ask (rw may at asks_it) in
            rw (asks.1, counts.0) (ap (λ (t : Option TopUpAnswer). Some (Told t)) (here ∙ ap (λ (s : Sub). told_after setting.plan.terms (held old s) act) asks.0));
        whole = (answer, refl, λ bad. absurd (let e : true ≡ false = sym may ∙ bad in cc));
      };
      held = λ other. elim (cases_Bool (same_sub sub other)) [
        | inl t ↦ (let e = (law sub other).0 t in
            rw (may, t, counts.0, ← e) (step.own ∙ ap (λ b. held_after old.terms b (held old sub) act) counts.1 ∙ ap (λ (z : TermsView). acts z (held old sub ++ act ∷ [])) terms))
        | inr f ↦ rw (may, f) (step.others other (λ e. let t : same_sub sub other ≡ true = (law sub other).1 (sym e) in absurd cc) ∙ sym (own other))
      ];
    }

-- one that was not judged leaves everything as it was
unjudged_stays : SameAreEqual → (old new : ShardView) (answer : TopUpAnswer) (sub : Sub) (act : Act) → is_judged_top_up answer ≡ false → IsStep old new (is_judged_top_up answer) sub act → (other : Sub) → held new other ≡ held old other
unjudged_stays law old new answer sub act not_taken step other =
    elim (cases_Bool (same_sub sub other)) [
      | inl t ↦ (let e = (law sub other).0 t in ap (held new) (sym e) ∙ step.own ∙ ap (λ b. held_after old.terms b (held old sub) act) not_taken ∙ ap (held old) e)
      | inr f ↦ step.others other (λ e. let t : same_sub sub other ≡ true = (law sub other).1 (sym e) in absurd cc)
    ]

refused_judged : SameAreEqual → (setting : Setting) (peers : ℕ → Option Peer) (old new : ShardView) (moment : ℕ) (sub : Sub) (ticket amount : ℕ) (answer : TopUpAnswer) → is_amount amount ≡ true
    → ((s : Sub) → acts setting.plan.terms (held old s) ≡ held old s) → answer ≡ Refused → IsStep old new (is_judged_top_up answer) sub (top_up_act moment ticket amount)
    → Judged setting peers old new moment sub ticket amount answer
refused_judged law setting peers old new moment sub ticket amount answer may own is step =
    let act = top_up_act moment ticket amount in
    let refused : is_refused_top_up (Some answer) ≡ true = ap (λ (a : TopUpAnswer). is_refused_top_up (Some a)) is in
    let stays = unjudged_stays law old new answer sub act (ap is_judged_top_up is) step in
    record {
      next = record {
        subscribers = λ other ask asks_it.
            let asks = top_up_asks law sub other (record { act = act; source = TopUp }) ask (rw may at asks_it) in
            rw (asks.1, refused) (ap (λ (a : TopUpAnswer). Some a) is);
        whole = (answer, refl, λ bad. absurd (let e : true ≡ false = sym may ∙ bad in cc));
      };
      held = λ other. elim (cases_Bool (same_sub sub other)) [
        | inl t ↦ rw (may, t, refused) (stays other ∙ sym (own other))
        | inr f ↦ rw (may, f) (stays other ∙ sym (own other))
      ];
    }

bad_judged : SameAreEqual → (setting : Setting) (peers : ℕ → Option Peer) (old new : ShardView) (moment : ℕ) (sub : Sub) (ticket amount : ℕ) (answer : TopUpAnswer) → is_amount amount ≡ false
    → ((s : Sub) → acts setting.plan.terms (held old s) ≡ held old s) → answer ≡ BadAmount → IsStep old new (is_judged_top_up answer) sub (top_up_act moment ticket amount)
    → Judged setting peers old new moment sub ticket amount answer
bad_judged law setting peers old new moment sub ticket amount answer may_not own is step =
    let stays = unjudged_stays law old new answer sub (top_up_act moment ticket amount) (ap is_judged_top_up is) step in
    record {
      next = record {
        subscribers = λ other ask asks_it. (let none = rw may_not at asks_it in absurd cc);
        whole = (answer, refl, λ bad. is);
      };
      held = λ other. rw may_not (stays other ∙ sym (own other));
    }

pub top_up_judged : SameAreEqual → (setting : Setting) (peers : ℕ → Option Peer) (old new : ShardView) (moment : ℕ) (sub : Sub) (ticket amount : ℕ) (answer : TopUpAnswer)
    → old.terms ≡ setting.plan.terms → AreOwn old → IsTold old sub moment ticket amount answer → IsStep old new (is_judged_top_up answer) sub (top_up_act moment ticket amount)
    → Judged setting peers old new moment sub ticket amount answer
top_up_judged law setting peers old new moment sub ticket amount answer terms own is step =
    let own_acts : (s : Sub) → acts setting.plan.terms (held old s) ≡ held old s = subst (λ (t : TermsView). (s : Sub) → acts t (held old s) ≡ held old s) terms own in
    elim (cases_Bool (is_amount amount)) [
      | inl may ↦ (let told_or : (Some answer ≡ told_after old.terms (held old sub) (top_up_act moment ticket amount)) ⊎ (answer ≡ Refused) = rw may at is in elim told_or [
        | inl told_it ↦ told_judged law setting peers old new moment sub ticket amount answer may terms own_acts told_it step
        | inr refused ↦ refused_judged law setting peers old new moment sub ticket amount answer may own_acts refused step
      ])
      | inr may_not ↦ (let bad : answer ≡ BadAmount = rw may_not at is in bad_judged law setting peers old new moment sub ticket amount answer may_not own_acts bad step)
    ]
