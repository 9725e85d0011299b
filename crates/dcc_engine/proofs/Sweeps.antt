-- A sweep, subscriber by subscriber, and what it has then come to.
use Rattle.std.proofs.Common.{◌≡◌, ◌≢◌, ℕ, zero, suc, ◌+◌, ◌<◌, Bool, true, false, if◌then◌else◌, ◌≤◌, List, [], ◌∷◌, ◌++◌, length, get_or, take, Option, refl, sym, ap, subst, ◌∙◌, arith, inl, inr}
use Rattle.std.specs.Prelude.{not, ◌&&◌, ◌||◌}
use Rattle.std.proofs.lemmas.Bool.{cases_Bool, and_parts, and_from}
use Rattle.std.proofs.lemmas.List.{length-append}
use Rattle.dcc_tariff.specs.Terms.{TermsView}
use Rattle.dcc_act.specs.Subs.{same_sub, SameAreEqual}
use Rattle.dcc_act.specs.declared.act.Act.{Act}
use Rattle.dcc_act.specs.declared.sub.Sub.{Sub}
use Rattle.dcc_model.specs.Outcomes.{acts}
use Rattle.dcc_shard.specs.Answers.{expiry_act}
use Rattle.dcc_shard.specs.Shards.{ShardView, held, held_after, AreOwn, is_among, are_apart}
use Rattle.dcc_dispatch.specs.Settings.{Setting}
use Rattle.dcc_engine.specs.Asks.{out_sweep}
use Rattle.dcc_engine.specs.Asks.Source.{Sweep}
use Rattle.dcc_engine.specs.inner.Sweeps.{IsSwept, IsOneSwept}
use Rattle.dcc_engine.specs.inner.Turns.{IsJudged, now_with}
use Rattle.dcc_engine.specs.declared.event.Event.TheVariants as events
use Rattle.dcc_engine.proofs.Requests.{one_or_other}
use Rattle.dcc_base.specs.declared.peer.Peer.{Peer}

same_swapped : SameAreEqual → (a b : Sub) → same_sub a b ≡ false → same_sub b a ≡ false
same_swapped law a b h =
    elim (cases_Bool (same_sub b a)) [
      | inl t ↦ (let same : same_sub a b ≡ true = (law a b).1 (sym ((law b a).0 t)) in absurd cc)
      | inr f ↦ f
    ]

or_none : (a b : Bool) → (a || b) ≡ false → (a ≡ false) × (b ≡ false)
or_none true b h = absurd cc
or_none false b h = (refl, h)

neither : (a b : Bool) → a ≡ false → b ≡ false → (a || b) ≡ false
neither a b none same = rw none same

not_true : (b : Bool) → not b ≡ true → b ≡ false
not_true true h = absurd cc
not_true false h = refl

among_push : (sub one : Sub) (subs : List Sub) → is_among sub (subs ++ one ∷ []) ≡ (is_among sub subs || same_sub one sub)
among_push sub one [] = elim (cases_Bool (same_sub one sub)) [ inl t ↦ rw t refl | inr f ↦ rw f refl ]
among_push sub one (first ∷ subs) =
    elim (cases_Bool (same_sub first sub)) [
      | inl t ↦ rw t refl
      | inr f ↦ rw f (among_push sub one subs)
    ]

-- one that is none of these is none at their places
none_at : (sub : Sub) (subs : List Sub) (i : ℕ) (none : Sub) → is_among sub subs ≡ false → i < length subs → same_sub (get_or subs i none) sub ≡ false
none_at sub [] i none h lt = absurd (omega arith)
none_at sub (one ∷ subs) zero none h lt = (or_none (same_sub one sub) (is_among sub subs) h).0
none_at sub (one ∷ subs) (suc i) none h lt = none_at sub subs i none (or_none (same_sub one sub) (is_among sub subs) h).1 (omega arith)

-- where each is there once, none is among those before it
pub first_here : SameAreEqual → (subs : List Sub) (i : ℕ) (none : Sub) → are_apart subs ≡ true → i < length subs → is_among (get_or subs i none) (take i subs) ≡ false
first_here law [] i none apart lt = absurd (omega arith)
first_here law (one ∷ subs) zero none apart lt = refl
first_here law (one ∷ subs) (suc i) none apart lt =
    let parts = and_parts (not (is_among one subs)) (are_apart subs) apart in
    let differ = same_swapped law (get_or subs i none) one (none_at one subs i none (not_true (is_among one subs) parts.0) (omega arith)) in
    rw differ (first_here law subs i none parts.1 (omega arith))

apart_push : SameAreEqual → (subs : List Sub) (one : Sub) → are_apart subs ≡ true → is_among one subs ≡ false → are_apart (subs ++ one ∷ []) ≡ true
apart_push law [] one apart none = refl
apart_push law (first ∷ subs) one apart none =
    let parts = and_parts (not (is_among first subs)) (are_apart subs) apart in
    let differ = or_none (same_sub first one) (is_among one subs) none in
    let not_first = among_push first one subs ∙ neither (is_among first subs) (same_sub one first) (not_true (is_among first subs) parts.0) (same_swapped law first one differ.0) in
    and_from _ _ (ap not not_first) (apart_push law subs one parts.1 differ.1)

or_false : (a : Bool) → a ≡ (a || false)
or_false true = refl
or_false false = refl

-- who is refused with one more
refused_with : (judged : Bool) (before then_refused : List Sub) (sub other : Sub) → then_refused ≡ (if judged then before else before ++ sub ∷ [])
    → is_among other then_refused ≡ (is_among other before || (not judged && same_sub sub other))
refused_with true before then_refused sub other is = ap (is_among other) is ∙ or_false (is_among other before)
refused_with false before then_refused sub other is = ap (is_among other) is ∙ among_push other sub before

flags_here : (judged before done same : Bool) → before ≡ false → done ≡ false → same ≡ true → ((done || same) && not (before || (not judged && same))) ≡ judged
flags_here true before done same b d s = rw (b, d, s) refl
flags_here false before done same b d s = rw (b, d, s) refl

flags_apart : (judged before done same : Bool) → same ≡ false → ((done || same) && not (before || (not judged && same))) ≡ (done && not before)
flags_apart judged before done true s = absurd cc
flags_apart true true true false s = refl
flags_apart true true false false s = refl
flags_apart true false true false s = refl
flags_apart true false false false s = refl
flags_apart false true true false s = refl
flags_apart false true false false s = refl
flags_apart false false true false s = refl
flags_apart false false false false s = refl

flags_within : (judged before done same : Bool) → (before ≡ true → done ≡ true) → (before || (not judged && same)) ≡ true → (done || same) ≡ true
flags_within judged true done same within h = rw (within refl) refl
flags_within true false done same within h = absurd cc
flags_within false false true same within h = refl
flags_within false false false same within h = h

other_is : SameAreEqual → (sub other : Sub) → other ≢ sub → same_sub sub other ≡ false
other_is law sub other apart =
    elim (cases_Bool (same_sub sub other)) [
      | inl t ↦ absurd (apart (sym ((law sub other).0 t)))
      | inr f ↦ f
    ]

once_with : SameAreEqual → (judged : Bool) (before then_refused : List Sub) (sub : Sub) → then_refused ≡ (if judged then before else before ++ sub ∷ []) → are_apart before ≡ true → is_among sub before ≡ false
    → are_apart then_refused ≡ true
once_with law true before then_refused sub is once none = ap are_apart is ∙ once
once_with law false before then_refused sub is once none = ap are_apart is ∙ apart_push law before sub once none

few_with : (judged : Bool) (before then_refused : List Sub) (sub : Sub) (i : ℕ) → then_refused ≡ (if judged then before else before ++ sub ∷ []) → length before ≤ i → length then_refused ≤ i + 1
few_with true before then_refused sub i is few = let e : length then_refused ≡ length before = ap length is in omega arith
few_with false before then_refused sub i is few = let e : length then_refused ≡ length (before ++ sub ∷ []) = ap length is in omega (arith, length-append before (sub ∷ []))

pub few_more : (old new : ShardView) (before then_refused : List Sub) (sub : Sub) (act : Act) (i : ℕ) → IsOneSwept old new before then_refused sub act → length before ≤ i → length then_refused ≤ i + 1
few_more old new before then_refused sub act i one few = few_with one.judged before then_refused sub i one.noted few

pub swept_none : (old : ShardView) (act : Act) → IsSwept old old [] [] act
swept_none old act = record { held_is = λ sub. refl; within = λ sub h. absurd cc; once = refl; terms = refl; identity = refl }

pub swept_more : SameAreEqual → (old now new : ShardView) (done before then_refused : List Sub) (sub : Sub) (act : Act) → IsSwept old now done before act → IsOneSwept now new before then_refused sub act
    → is_among sub done ≡ false → IsSwept old new (done ++ sub ∷ []) then_refused act
swept_more law old now new done before then_refused sub act swept one not_done =
    let terms = old.terms in
    let judged = one.judged in
    let not_before : is_among sub before ≡ false = elim (cases_Bool (is_among sub before)) [
      | inl t ↦ (let there = swept.within sub t in absurd cc)
      | inr f ↦ f
    ] in
    let refused_is = λ (other : Sub). refused_with judged before then_refused sub other one.noted in
    let flags_are = λ (other : Sub). ap (λ (b : Bool). b && not (is_among other then_refused)) (among_push other sub done)
    ∙ ap (λ (b : Bool). (is_among other done || same_sub sub other) && not b) (refused_is other) in
    let now_is : held now sub ≡ held old sub = swept.held_is sub ∙ ap (λ (b : Bool). held_after terms (b && not (is_among sub before)) (held old sub) act) not_done in
    let here : held new sub ≡ held_after terms (is_among sub (done ++ sub ∷ []) && not (is_among sub then_refused)) (held old sub) act =
    one.step.own ∙ ap (λ (t : TermsView). held_after t judged (held now sub) act) swept.terms ∙ ap (λ (xs : List Act). held_after terms judged xs act) now_is
    ∙ ap (λ (b : Bool). held_after terms b (held old sub) act) (sym (flags_are sub ∙ flags_here judged (is_among sub before) (is_among sub done) (same_sub sub sub) not_before not_done ((law sub sub).1 refl))) in
    record {
      held_is = λ other. elim (one_or_other law other sub) [
        | inl e ↦ subst (λ (s : Sub). held new s ≡ held_after terms (is_among s (done ++ sub ∷ []) && not (is_among s then_refused)) (held old s) act) (sym e) here
        | inr apart ↦ one.step.others other apart ∙ swept.held_is other
            ∙ ap (λ (b : Bool). held_after terms b (held old other) act) (sym (flags_are other ∙ flags_apart judged (is_among other before) (is_among other done) (same_sub sub other) (other_is law sub other apart)))
      ];
      within = λ other h. among_push other sub done ∙ flags_within judged (is_among other before) (is_among other done) (same_sub sub other) (swept.within other) (sym (refused_is other) ∙ h);
      once = once_with law judged before then_refused sub one.noted swept.once not_before;
      terms = one.step.terms ∙ swept.terms;
      identity = one.step.identity ∙ swept.identity;
    }

-- of no acts an expiry makes none
nothing_expires : (terms : TermsView) (moment : ℕ) → acts terms (expiry_act moment ∷ []) ≡ []
unfolding acts
nothing_expires terms moment = refl

abbrev pub Judged : Setting → (ℕ → Option Peer) → ShardView → ShardView → ℕ → List Sub → Bool → Type 0
Judged setting peers old new moment refused all =
    IsJudged setting (now_with peers old) (held new) (record { event = events.Sweep moment; out = out_sweep refused all })

own_acts : (setting : Setting) (old : ShardView) → old.terms ≡ setting.plan.terms → AreOwn old → (sub : Sub) → acts setting.plan.terms (held old sub) ≡ held old sub
own_acts setting old terms own = subst (λ (t : TermsView). (s : Sub) → acts t (held old s) ≡ held old s) terms own

expired_or_none : (setting : Setting) (old : ShardView) → old.terms ≡ setting.plan.terms → (subs : List Sub) (sub : Sub) (act : Act) → (is_among sub subs ≡ false → held old sub ≡ []) → (moment : ℕ) → act ≡ expiry_act moment
    → held_after old.terms (is_among sub subs && true) (held old sub) act ≡ acts setting.plan.terms (held old sub ++ act ∷ [])
expired_or_none setting old terms subs sub act none moment is =
    elim (cases_Bool (is_among sub subs)) [
      | inl t ↦ rw t (ap (λ (z : TermsView). acts z (held old sub ++ act ∷ [])) terms)
      | inr f ↦ rw f (none f ∙ sym (nothing_expires setting.plan.terms moment) ∙ ap (λ (a : Act). acts setting.plan.terms (a ∷ [])) (sym is)
          ∙ ap (λ (xs : List Act). acts setting.plan.terms (xs ++ act ∷ [])) (sym (none f)))
    ]

-- each subscriber expired, or is among the refused
pub swept_judged : (setting : Setting) (peers : ℕ → Option Peer) (old new : ShardView) (moment : ℕ) (subs refused : List Sub) → old.terms ≡ setting.plan.terms → AreOwn old
    → ((sub : Sub) → is_among sub subs ≡ true → held old sub ≢ []) → ((sub : Sub) → is_among sub subs ≡ false → held old sub ≡ []) → IsSwept old new subs refused (expiry_act moment) → Judged setting peers old new moment refused false
swept_judged setting peers old new moment subs refused terms own some none swept =
    let act = expiry_act moment in
    record {
      next = record {
        subscribers = λ sub ask asks_it.
            let asks : ask ≡ record { act = act; source = Sweep } = cc in
            rw asks (elim (cases_Bool (is_among sub refused)) [ inl t ↦ rw t tt | inr f ↦ rw f refl ]);
        whole = (refl, swept.once, λ all. absurd cc, λ sub there nothing. some sub (swept.within sub there) (sym (own_acts setting old terms own sub) ∙ nothing));
      };
      held = λ sub. elim (cases_Bool (is_among sub refused)) [
        | inl t ↦ rw t (swept.held_is sub ∙ ap (λ (b : Bool). held_after old.terms (b && not (is_among sub refused)) (held old sub) act) (swept.within sub t)
            ∙ ap (λ (b : Bool). held_after old.terms (not b) (held old sub) act) t ∙ sym (own_acts setting old terms own sub))
        | inr f ↦ rw f (swept.held_is sub ∙ ap (λ (b : Bool). held_after old.terms (is_among sub subs && not b) (held old sub) act) f ∙ expired_or_none setting old terms subs sub act (none sub) moment refl)
      ];
    }

-- all are refused, and nothing changed
pub all_refused : (setting : Setting) (peers : ℕ → Option Peer) (old new : ShardView) (moment : ℕ) → old.terms ≡ setting.plan.terms → AreOwn old → new ≡ old → Judged setting peers old new moment [] true
all_refused setting peers old new moment terms own same = record {
  next = record {
    subscribers = λ sub ask asks_it.
        let asks : ask ≡ record { act = expiry_act moment; source = Sweep } = cc in
        rw asks tt;
    whole = (refl, refl, λ all. refl, λ sub there nothing. absurd cc);
  };
  held = λ sub. ap (λ (s : ShardView). held s sub) same ∙ sym (own_acts setting old terms own sub);
}
