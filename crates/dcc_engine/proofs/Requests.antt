-- One credit-control request, from what the shard answered and left.
use Rattle.std.proofs.Common.{◌≡◌, ◌≢◌, ℕ, ◌≤◌, ◌==◌, Bool, true, false, if◌then◌else◌, List, [], ◌∷◌, ◌++◌, length, Option, Some, None, ◌⊎◌, refl, sym, ap, subst, ◌∙◌, inl, inr}
use Rattle.std.proofs.lemmas.Bool.{cases_Bool, eqb-true}
use Rattle.dcc_tariff.specs.Terms.{TermsView}
use Rattle.dcc_message.specs.HeaderView.{HeaderView}
use Rattle.dcc_message.specs.declared.identity.Identity.{Identity}
use Rattle.dcc_message.specs.declared.length.TheConstants.{HEADER_LENGTH}
use Rattle.dcc_base.specs.declared.peer.Peer.{Peer}
use Rattle.dcc_act.specs.Subs.{same_sub, SameAreEqual}
use Rattle.dcc_act.specs.declared.act.Act.{Act}
use Rattle.dcc_act.specs.declared.sub.Sub.{Sub}
use Rattle.dcc_model.specs.Outcomes.{acts, after, place, is_new}
use Rattle.dcc_answer.specs.Answers.{busy_octets}
use Rattle.dcc_answer.specs.Results.{is_busy}
use Rattle.dcc_credit.specs.Answers.{answer_octets}
use Rattle.dcc_shard.specs.Shards.{ShardView, held, held_after, AreOwn, IsStep}
use Rattle.dcc_shard.specs.Answers.{IsAnswer, answer_at, answer_after, busy_answer, session_of_act, IsToldApart, is_judged, octets_of}
use Rattle.dcc_shard.specs.declared.answers.RequestAnswer.{RequestAnswer}
use Rattle.dcc_shard.specs.declared.answers.RequestAnswer.TheVariants.{Silent}
use Rattle.dcc_dispatch.specs.Refusals.{is_refusal, busy_to, IsBusyOrNothing}
use Rattle.dcc_dispatch.specs.Settings.{Setting}
use Rattle.dcc_dispatch.specs.Messages as messages
use Rattle.dcc_dispatch.specs.Messages.{MessageView, Received, received_on}
use Rattle.dcc_dispatch.specs.Dispatches.{IsAsked, IsRefused}
use Rattle.dcc_dispatch.specs.declared.asked.Asked.{Asked}
use Rattle.dcc_dispatch.specs.declared.verdict.Verdict.{Verdict}
use Rattle.dcc_dispatch.specs.declared.verdict.Verdict.TheVariants as verdicts
use Rattle.dcc_engine.specs.Asks.{Ask, request_ask, answer_to, IsOfNobody, out_octets, own_with, moved_by}
use Rattle.dcc_engine.specs.Asks.Said.{Octets}
use Rattle.dcc_engine.specs.Asks.Source.{Message}
use Rattle.dcc_engine.specs.Engines.{EngineView, PeersView, peer_in, peer_of}
use Rattle.dcc_engine.specs.Openers.{verdict_in}
use Rattle.dcc_engine.specs.inner.Turns.{IsJudged, IsTurnDone, IsHandedOn, now_with}
use Rattle.dcc_engine.specs.declared.event.Event.TheVariants as events
use Rattle.dcc_engine.specs.declared.event.Out.{Out}
use Rattle.dcc_engine.proofs.Refusals.{refusal_of, nothing_is_one}

-- the request of this verdict was handed to the shard, whose answer this is
record IsTaken
    (old new : ShardView) (message : MessageView) (verdict : Verdict) (octets : List ℕ) (sub : Sub) (act : Act) (answer : RequestAnswer)
    : Type 0 where
  verdict_is : verdict ≡ verdicts.Asks sub act
  session_is : messages.session message ≡ session_of_act act
  answer_is : IsAnswer old sub act message.header (messages.proxies message) answer
  step : IsStep old new (is_judged answer) sub act
  apart : IsToldApart answer
  octets_are : octets ≡ octets_of answer

-- the request was answered by what its act comes to, and its act was made
record IsMade (setting : Setting) (old new : ShardView) (message : MessageView) (verdict : Verdict) (octets : List ℕ) (sub : Sub) (act : Act) : Type 0 where
  verdict_is : verdict ≡ verdicts.Asks sub act
  octets_are : octets ≡ answer_to setting message (after setting.plan.terms (held old sub) act)
  counted : is_refusal octets ≡ false
  own : held new sub ≡ acts setting.plan.terms (held old sub ++ act ∷ [])
  others : (other : Sub) → other ≢ sub → held new other ≡ held old other

-- it was turned away, and nothing is held otherwise than before
record IsAway (setting : Setting) (old new : ShardView) (message : MessageView) (octets : List ℕ) : Type 0 where
  busy : IsBusyOrNothing setting.identity message octets
  refused : is_refusal octets ≡ true
  stays : (sub : Sub) → held new sub ≡ held old sub

-- what is known of an answer with a place, or without
judged_at : (octets : List ℕ) (place : Option ℕ) (fresh : Bool) → is_judged (answer_at octets place fresh) ≡ true
judged_at octets None fresh = refl
judged_at octets (Some at) fresh = refl

octets_at : (octets : List ℕ) (place : Option ℕ) (fresh : Bool) → octets_of (answer_at octets place fresh) ≡ octets
octets_at octets None fresh = refl
octets_at octets (Some at) fresh = refl

counted_at : (octets : List ℕ) (place : Option ℕ) (fresh : Bool) → IsToldApart (answer_at octets place fresh) → is_refusal octets ≡ false
counted_at octets None fresh apart = refusal_of octets apart.1 ∙ apart.0
counted_at octets (Some at) fresh apart = refusal_of octets apart.1 ∙ apart.0

-- answers of one server under the same terms are the same
answer_of : (setting : Setting) (identity : Identity) (terms : TermsView) (message : MessageView) (before : List Act) (act : Act) → identity ≡ setting.identity → terms ≡ setting.plan.terms
    → answer_octets identity terms message.header (messages.proxies message) (after terms before act) ≡ answer_to setting message (after setting.plan.terms before act)
answer_of setting identity terms message before act is_one are_same = rw (is_one, are_same) refl

taken_made : (setting : Setting) (old new : ShardView) (message : MessageView) (verdict : Verdict) (octets : List ℕ) (sub : Sub) (act : Act) (answer : RequestAnswer)
    → old.identity ≡ setting.identity → old.terms ≡ setting.plan.terms → IsTaken old new message verdict octets sub act answer
    → answer ≡ answer_after old.identity old.terms message.header (messages.proxies message) (held old sub) act → IsMade setting old new message verdict octets sub act
taken_made setting old new message verdict octets sub act answer identity terms taken is =
    let before = held old sub in
    let given = answer_octets old.identity old.terms message.header (messages.proxies message) (after old.terms before act) in
    let at = place old.terms before act in
    let fresh = is_new old.terms before act in
    let octets_are : octets ≡ given = taken.octets_are ∙ ap octets_of is ∙ octets_at given at fresh in
    let judged : is_judged answer ≡ true = ap is_judged is ∙ judged_at given at fresh in
    record {
      verdict_is = taken.verdict_is;
      octets_are = octets_are ∙ answer_of setting old.identity old.terms message before act identity terms;
      counted = ap is_refusal octets_are ∙ counted_at given at fresh (subst IsToldApart is taken.apart);
      own = taken.step.own ∙ ap (λ b. held_after old.terms b before act) judged ∙ ap (λ (t : TermsView). acts t (before ++ act ∷ [])) terms;
      others = taken.step.others;
    }

pub one_or_other : SameAreEqual → (a b : Sub) → (a ≡ b) ⊎ (a ≢ b)
one_or_other law a b =
    elim (cases_Bool (same_sub a b)) [
      | inl t ↦ inl ((law a b).0 t)
      | inr f ↦ inr (λ e. let t : same_sub a b ≡ true = (law a b).1 e in absurd cc)
    ]

-- a step that was not judged leaves everything as it was
stays_unjudged : SameAreEqual → (old new : ShardView) (judged : Bool) (sub : Sub) (act : Act) → judged ≡ false → IsStep old new judged sub act → (other : Sub) → held new other ≡ held old other
stays_unjudged law old new judged sub act not_judged step other =
    elim (one_or_other law other sub) [
      | inl e ↦ ap (held new) e ∙ step.own ∙ ap (λ b. held_after old.terms b (held old sub) act) not_judged ∙ ap (held old) (sym e)
      | inr apart ↦ step.others other apart
    ]

-- the busy answer of a shard is the engine's
busy_of : (setting : Setting) (identity : Identity) (message : MessageView) (act : Act) → identity ≡ setting.identity → messages.session message ≡ session_of_act act
    → busy_octets identity (session_of_act act) message.header (messages.proxies message) ≡ busy_to setting.identity message
busy_of setting identity message act is_one session =
    ap (λ (s : Option (List ℕ)). busy_octets identity s message.header (messages.proxies message)) (sym session)
    ∙ ap (λ (i : Identity). busy_octets i (messages.session message) message.header (messages.proxies message)) is_one

taken_busy : SameAreEqual → (setting : Setting) (old new : ShardView) (message : MessageView) (verdict : Verdict) (octets : List ℕ) (sub : Sub) (act : Act) (answer : RequestAnswer)
    → old.identity ≡ setting.identity → IsTaken old new message verdict octets sub act answer
    → answer ≡ busy_answer old.identity message.header (messages.proxies message) (session_of_act act) → IsAway setting old new message octets
taken_busy law setting old new message verdict octets sub act answer identity taken is =
    let given = busy_octets old.identity (session_of_act act) message.header (messages.proxies message) in
    let octets_are : octets ≡ given = taken.octets_are ∙ ap octets_of is in
    let apart : (is_busy given ≡ true) × (HEADER_LENGTH ≤ length given) = subst IsToldApart is taken.apart in
    record {
      busy = inl (octets_are ∙ busy_of setting old.identity message act identity taken.session_is);
      refused = ap is_refusal octets_are ∙ refusal_of given apart.1 ∙ apart.0;
      stays = stays_unjudged law old new (is_judged answer) sub act (ap is_judged is) taken.step;
    }

taken_silent : SameAreEqual → (setting : Setting) (old new : ShardView) (message : MessageView) (verdict : Verdict) (octets : List ℕ) (sub : Sub) (act : Act) (answer : RequestAnswer)
    → IsTaken old new message verdict octets sub act answer → answer ≡ Silent → IsAway setting old new message octets
taken_silent law setting old new message verdict octets sub act answer taken is =
    let octets_are : octets ≡ [] = taken.octets_are ∙ ap octets_of is in
    record {
      busy = inr octets_are;
      refused = ap is_refusal octets_are ∙ nothing_is_one;
      stays = stays_unjudged law old new (is_judged answer) sub act (ap is_judged is) taken.step;
    }

-- whose the ask is, and that it is the request's
request_asks : SameAreEqual → (message : MessageView) (owner : Sub) (act : Act) (sub : Sub) (ask : Ask) → request_ask message (verdicts.Asks owner act) sub ≡ Some ask
    → (owner ≡ sub) × (ask ≡ record { act = act; source = Message message })
request_asks law message owner act sub ask is =
    elim (cases_Bool (same_sub owner sub)) [
      | inl t ↦ (let e = rw t at is in ((law owner sub).0 t, cc))
      | inr f ↦ (let e = rw f at is in absurd cc)
    ]

source_is : (message : MessageView) (verdict : Verdict) (sub : Sub) (ask : Ask) → request_ask message verdict sub ≡ Some ask → ask.source ≡ Message message
source_is message (verdicts.Asks owner act) sub ask is =
    elim (cases_Bool (same_sub owner sub)) [
      | inl t ↦ (let e : Some (record { act = act; source = Message message }) ≡ Some ask = rw t at is in
          let one : ask ≡ record { act = act; source = Message message } = cc in ap (λ (a : Ask). a.source) one)
      | inr f ↦ (let e = rw f at is in absurd cc)
    ]
source_is message (verdicts.Seeks act) sub ask is = absurd cc
source_is message (verdicts.Refused octets) sub ask is = absurd cc

-- the acts that are held are those that they make under the setting's terms
pub of_terms : (setting : Setting) (old : ShardView) → old.terms ≡ setting.plan.terms → AreOwn old → (s : Sub) → acts setting.plan.terms (held old s) ≡ held old s
of_terms setting old terms own = subst (λ (t : TermsView). (s : Sub) → acts t (held old s) ≡ held old s) terms own

-- one turn of a request, with peers as they were before it
abbrev pub Judged : Setting → (ℕ → Option Peer) → ShardView → ShardView → ℕ → ℕ → List ℕ → List ℕ → Type 0
Judged setting peers old new id moment octets given =
    IsJudged setting (now_with peers old) (held new) (record { event = events.Message id moment octets; out = out_octets (Some id) given })

made_held : SameAreEqual → (setting : Setting) (old new : ShardView) (message : MessageView) (verdict : Verdict) (octets : List ℕ) (owner : Sub) (act : Act) (out : Out) (sub : Sub)
    → ((s : Sub) → acts setting.plan.terms (held old s) ≡ held old s) → out.octets ≡ octets → IsMade setting old new message verdict octets owner act
    → held new sub ≡ acts setting.plan.terms (own_with (request_ask message (verdicts.Asks owner act) sub) out sub (held old sub))
made_held law setting old new message verdict octets owner act out sub own is made =
    let counted : is_refusal out.octets ≡ false = ap is_refusal is ∙ made.counted in
    elim (cases_Bool (same_sub owner sub)) [
      | inl t ↦ (let e = (law owner sub).0 t in rw (t, counted, ← e) made.own)
      | inr f ↦ rw f (made.others sub (λ e. let t : same_sub owner sub ≡ true = (law owner sub).1 (sym e) in absurd cc) ∙ sym (own sub))
    ]

made_judged : SameAreEqual → (setting : Setting) (peers : ℕ → Option Peer) (old new : ShardView) (id moment : ℕ) (octets : List ℕ) (host : List ℕ) (message : MessageView) (given : List ℕ)
    (owner : Sub) (act : Act) → ((s : Sub) → acts setting.plan.terms (held old s) ≡ held old s) → received_on (peers id) octets ≡ Received.Charging host message
    → IsMade setting old new message (verdict_in setting (now_with peers old) moment host message) given owner act
    → Judged setting peers old new id moment octets given
made_judged law setting peers old new id moment octets host message given owner act own received made =
    let out = out_octets (Some id) given in
    let verdict = verdict_in setting (now_with peers old) moment host message in
    let terms = setting.plan.terms in
    record {
      next = record {
        subscribers = λ sub ask is.
            let here : request_ask message verdict sub ≡ Some ask = rw received at is in
            let asks = request_asks law message owner act sub ask (ap (λ (v : Verdict). request_ask message v sub) (sym made.verdict_is) ∙ here) in
            rw (asks.1, made.counted) (ap (λ (o : List ℕ). Some (Octets o)) (made.octets_are ∙ ap (λ (s : Sub). answer_to setting message (after terms (held old s) act)) asks.0));
        whole = rw received (refl, subst (λ (v : Verdict). IsOfNobody setting.identity message v given) (sym made.verdict_is) tt);
      };
      held = λ sub. rw received (made_held law setting old new message verdict given owner act out sub own refl made
          ∙ ap (λ (v : Verdict). acts terms (own_with (request_ask message v sub) out sub (held old sub))) (sym made.verdict_is));
    }

refused_judged : (setting : Setting) (peers : ℕ → Option Peer) (held_there : ShardView) (id moment : ℕ) (octets : List ℕ) (host : List ℕ) (message : MessageView) (given : List ℕ)
    → ((s : Sub) → acts setting.plan.terms (held held_there s) ≡ held held_there s) → received_on (peers id) octets ≡ Received.Charging host message
    → verdict_in setting (now_with peers held_there) moment host message ≡ verdicts.Refused given → is_refusal given ≡ false → Judged setting peers held_there held_there id moment octets given
refused_judged setting peers held_there id moment octets host message given own received refused answered =
    let out = out_octets (Some id) given in
    let verdict = verdict_in setting (now_with peers held_there) moment host message in
    let terms = setting.plan.terms in
    record {
      next = record {
        subscribers = λ sub ask is.
            let here : request_ask message verdict sub ≡ Some ask = rw received at is in
            let none : None ≡ Some ask = ap (λ (v : Verdict). request_ask message v sub) (sym refused) ∙ here in absurd cc;
        whole = rw received (refl, subst (λ (v : Verdict). IsOfNobody setting.identity message v given) (sym refused) (rw answered refl));
      };
      held = λ sub. rw received (sym (own sub) ∙ ap (λ (v : Verdict). acts terms (own_with (request_ask message v sub) out sub (held held_there sub))) (sym refused));
    }

of_nobody : (identity : Identity) (message : MessageView) (verdict : Verdict) (octets : List ℕ) → is_refusal octets ≡ true → IsBusyOrNothing identity message octets → IsOfNobody identity message verdict octets
of_nobody identity message (verdicts.Asks owner act) octets refused busy = tt
of_nobody identity message (verdicts.Seeks act) octets refused busy = tt
of_nobody identity message (verdicts.Refused refusal) octets refused busy = rw refused busy

refused_own : (message : MessageView) (verdict : Verdict) (sub : Sub) (out : Out) (before : List Act) → is_refusal out.octets ≡ true → own_with (request_ask message verdict sub) out sub before ≡ before
refused_own message (verdicts.Asks owner act) sub out before refused =
    elim (cases_Bool (same_sub owner sub)) [
      | inl t ↦ rw (t, refused) refl
      | inr f ↦ rw f refl
    ]
refused_own message (verdicts.Seeks act) sub out before refused = refl
refused_own message (verdicts.Refused octets) sub out before refused = refl

away_judged : (setting : Setting) (peers : ℕ → Option Peer) (old new : ShardView) (id moment : ℕ) (octets : List ℕ) (host : List ℕ) (message : MessageView) (given : List ℕ)
    → ((s : Sub) → acts setting.plan.terms (held old s) ≡ held old s) → received_on (peers id) octets ≡ Received.Charging host message → IsAway setting old new message given
    → Judged setting peers old new id moment octets given
away_judged setting peers old new id moment octets host message given own received away =
    let out = out_octets (Some id) given in
    let verdict = verdict_in setting (now_with peers old) moment host message in
    record {
      next = record {
        subscribers = λ sub ask is.
            let source = source_is message verdict sub ask (rw received at is) in
            rw (source, away.refused) away.busy;
        whole = rw received (refl, of_nobody setting.identity message verdict given away.refused away.busy);
      };
      held = λ sub. rw received (away.stays sub ∙ sym (ap (acts setting.plan.terms) (refused_own message verdict sub out (held old sub) away.refused) ∙ own sub));
    }

-- the answer goes under the message's header, with its proxies
taken_of : (old new : ShardView) (message : MessageView) (verdict : Verdict) (asked : Asked) (octets : List ℕ) → IsAsked message verdict asked → (handed : IsHandedOn old new asked octets)
    → IsTaken old new message verdict octets asked.sub asked.act handed.answer
taken_of old new message verdict asked octets is handed =
    record {
      verdict_is = is.verdict_is;
      session_is = is.session_is;
      answer_is = subst (λ (h : HeaderView). IsAnswer old asked.sub asked.act h (messages.proxies message) handed.answer) is.header_is
          (subst (λ (proxies : List ℕ). IsAnswer old asked.sub asked.act asked.header proxies handed.answer) is.proxies_are handed.is);
      step = handed.step;
      apart = handed.apart;
      octets_are = handed.octets_are;
    }

-- handed to the shard, its act was made, or it was turned away
pub handed_judged : SameAreEqual → (setting : Setting) (peers : ℕ → Option Peer) (old new : ShardView) (id moment : ℕ) (octets : List ℕ) (host : List ℕ) (message : MessageView) (given : List ℕ)
    (asked : Asked) → old.identity ≡ setting.identity → old.terms ≡ setting.plan.terms → AreOwn old → received_on (peers id) octets ≡ Received.Charging host message
    → IsAsked message (verdict_in setting (now_with peers old) moment host message) asked → IsHandedOn old new asked given → Judged setting peers old new id moment octets given
handed_judged law setting peers old new id moment octets host message given asked identity terms own received is handed =
    let own_acts = of_terms setting old terms own in
    let away = away_judged setting peers old new id moment octets host message given own_acts received in
    let verdict = verdict_in setting (now_with peers old) moment host message in
    let sub = asked.sub in
    let act = asked.act in
    let answer = handed.answer in
    let taken = taken_of old new message verdict asked given is handed in
    elim taken.answer_is [
      | inl made ↦ made_judged law setting peers old new id moment octets host message given sub act own_acts received
          (taken_made setting old new message verdict given sub act answer identity terms taken made)
      | inr refused ↦ (elim refused [
        | inl busy ↦ away (taken_busy law setting old new message verdict given sub act answer identity taken busy)
        | inr silent ↦ away (taken_silent law setting old new message verdict given sub act answer taken silent)
      ])
    ]

-- refused for what it says, or turned away
pub refused_at_once : (setting : Setting) (peers : ℕ → Option Peer) (held_there : ShardView) (id moment : ℕ) (octets : List ℕ) (host : List ℕ) (message : MessageView) (given : List ℕ)
    → held_there.terms ≡ setting.plan.terms → AreOwn held_there → received_on (peers id) octets ≡ Received.Charging host message
    → IsRefused setting.identity message (verdict_in setting (now_with peers held_there) moment host message) given → Judged setting peers held_there held_there id moment octets given
refused_at_once setting peers held_there id moment octets host message given terms own received refused =
    let own_acts = of_terms setting held_there terms own in
    elim (cases_Bool (is_refusal given)) [
      | inl t ↦ away_judged setting peers held_there held_there id moment octets host message given own_acts received (record { busy = rw t at refused; refused = t; stays = λ sub. refl })
      | inr f ↦ refused_judged setting peers held_there id moment octets host message given own_acts received (rw f at refused) f
    ]

-- refused or not
left_where : (refused : Bool) (peer : Option Peer) → (if refused then peer else peer) ≡ peer
left_where true peer = refl
left_where false peer = refl

-- a request leaves its peer where it is
request_moves_nothing : (setting : Setting) (rows : ℕ → Option Peer) (id moment : ℕ) (octets : List ℕ) (host : List ℕ) (message : MessageView) (out : Out) → received_on (rows id) octets ≡ Received.Charging host message
    → (q : ℕ) → rows q ≡ moved_by setting q (record { event = events.Message id moment octets; out = out }) (rows q)
request_moves_nothing setting rows id moment octets host message out received q =
    elim (cases_Bool (id == q)) [
      | inl t ↦ (let e : id ≡ q = eqb-true id q t in
          let here : received_on (rows q) octets ≡ Received.Charging host message = ap (λ (n : ℕ). received_on (rows n) octets) (sym e) ∙ received in
          rw (t, here) (sym (left_where (is_refusal out.octets) (rows q))))
      | inr f ↦ rw f refl
    ]

-- one turn of a request, whose engine keeps its setting and its peers
pub stays_put : (old : EngineView) (peers : PeersView) (new : ShardView) (shards id moment : ℕ) (octets : List ℕ) (host : List ℕ) (message : MessageView) (given : List ℕ)
    → received_on (peer_of old id) octets ≡ Received.Charging host message → ((q : ℕ) → peer_in peers.rows q ≡ peer_of old q)
    → Judged old.setting (peer_of old) old.shard new id moment octets given
    → IsTurnDone old (record { setting = old.setting; peers = peers; shard = new; shards = shards }) (record { event = events.Message id moment octets; out = out_octets (Some id) given })
stays_put old peers new shards id moment octets host message given received same judged =
    record { judged = judged; peers = λ q. same q ∙ request_moves_nothing old.setting (peer_of old) id moment octets host message (out_octets (Some id) given) received q; setting = refl }
