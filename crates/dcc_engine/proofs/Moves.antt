-- What is asked and told depends on what was before only so far: on the peer that is named, on the acts that subscribers' own
-- entries make, and on who opened which session by these.
use Rattle.std.proofs.Common.{◌≡◌, ℕ, List, Option, Some, None, option_and_then, refl, sym, ap, subst, ◌∙◌, inl, inr}
use Rattle.std.proofs.lemmas.Bool.{cases_Bool}
use Rattle.dcc_tariff.specs.Terms.{TermsView}
use Rattle.dcc_act.specs.declared.act.Act.{Act}
use Rattle.dcc_act.specs.declared.outcome.Outcome.{Outcome}
use Rattle.dcc_act.specs.declared.sub.Sub.{Sub}
use Rattle.dcc_message.specs.declared.identity.Identity.{Identity}
use Rattle.dcc_act.specs.Subs.{SameAreEqual}
use Rattle.dcc_model.specs.Laws.{AfterStays, NewStays, PlaceStays, ActsStay, ActsAreActs, OpenersStay, OneMoreOpens}
use Rattle.dcc_model.specs.Outcomes.{acts, after, place, is_new, was_opened_from}
use Rattle.dcc_shard.specs.Answers.{told}
use Rattle.dcc_dispatch.specs.Settings.{Setting}
use Rattle.dcc_dispatch.specs.Dispatches.{session_of_key}
use Rattle.dcc_dispatch.specs.Messages.{MessageView, Received, received_on}
use Rattle.dcc_dispatch.specs.Verdicts.{verdict_of, settled, found_or_refused}
use Rattle.dcc_dispatch.specs.declared.verdict.Verdict.{Verdict}
use Rattle.dcc_dispatch.specs.declared.verdict.Verdict.TheVariants as verdicts
use Rattle.dcc_engine.specs.Asks.{Turn, Ask, Source, Said, ask_for, request_ask, received_ask, is_refused_for, IsAnsweredFor, IsOut, IsMessageOut, IsOfNobody, said_from}
use Rattle.dcc_engine.specs.Asks.Said.{Told}
use Rattle.dcc_engine.specs.Asks.Source.{Message, TopUp, Sweep}
use Rattle.dcc_engine.specs.Openers.{Before, openers, the_one, opener_of, verdict_in}
use Rattle.dcc_engine.specs.inner.Turns.{IsNext}
use Rattle.dcc_engine.specs.declared.event.Event.{Event}
use Rattle.dcc_engine.specs.declared.event.Event.TheVariants as events
use Rattle.dcc_engine.specs.declared.event.Out.{Out}
use Rattle.dcc_base.specs.declared.peer.Peer.{Peer}
use Rattle.dcc_engine.proofs.Owners.{one_alike}
use Rattle.dcc_engine.proofs.Covering.{Covers}

-- leaving out what isn't made changes nothing of one more act, nor who opened what
pub record AreStable : Type 0 where
  pub after_stays : AfterStays
  pub new_stays : NewStays
  pub place_stays : PlaceStays
  pub acts_stay : ActsStay
  pub whole : ActsAreActs
  pub openers_stay : OpenersStay
  pub one_opens : OneMoreOpens
  pub same_are_equal : SameAreEqual

-- two that come to the same: the same peers, entries that make the same acts, and whoever opened something is listed in both
pub record AreAlike (terms : TermsView) (a b : Before) : Type 0 where
  pub peers_are : (id : ℕ) → a.peers id ≡ b.peers id
  pub acts_are : (sub : Sub) → acts terms (a.own sub) ≡ acts terms (b.own sub)
  pub first : Covers terms a
  pub second : Covers terms b

-- what is said of acts alone is the same of two lists that make the same acts
same_of : {X : Type 0} (terms : TermsView) (f : List Act → X) → ((zs : List Act) → f (acts terms zs) ≡ f zs) → (xs ys : List Act) → acts terms xs ≡ acts terms ys → f xs ≡ f ys
same_of terms f stays xs ys e = sym (stays xs) ∙ ap f e ∙ stays ys

pub same_after : AreStable → (terms : TermsView) (act : Act) (xs ys : List Act) → acts terms xs ≡ acts terms ys → after terms xs act ≡ after terms ys act
same_after stable terms act xs ys e = same_of terms (λ zs. after terms zs act) (λ zs. stable.after_stays terms zs act) xs ys e

same_said : AreStable → (setting : Setting) (act : Act) (source : Source) (xs ys : List Act) → acts setting.plan.terms xs ≡ acts setting.plan.terms ys
    → said_from setting xs act source (after setting.plan.terms xs act) ≡ said_from setting ys act source (after setting.plan.terms ys act)
same_said stable setting act (Message message) xs ys e =
    ap (λ (o : Outcome). said_from setting xs act (Message message) o) (same_after stable setting.plan.terms act xs ys e)
same_said stable setting act TopUp xs ys e =
    let terms = setting.plan.terms in
    ap (λ (o : Outcome). Told (told o (place terms xs act) (is_new terms xs act))) (same_after stable terms act xs ys e)
    ∙ ap (λ (p : Option ℕ). Told (told (after terms ys act) p (is_new terms xs act))) (same_of terms (λ zs. place terms zs act) (λ zs. stable.place_stays terms zs act) xs ys e)
    ∙ ap (λ n. Told (told (after terms ys act) (place terms ys act) n)) (same_of terms (λ zs. is_new terms zs act) (λ zs. stable.new_stays terms zs act) xs ys e)
same_said stable setting act Sweep xs ys e = refl

answered_moved : AreStable → (setting : Setting) (ask : Ask) (sub : Sub) (out : Out) (xs ys : List Act) → acts setting.plan.terms xs ≡ acts setting.plan.terms ys
    → IsAnsweredFor setting xs ask sub out (Some (after setting.plan.terms xs ask.act)) → IsAnsweredFor setting ys ask sub out (Some (after setting.plan.terms ys ask.act))
answered_moved stable setting ask sub out xs ys e answered =
    elim (cases_Bool (is_refused_for ask out sub)) [
      | inl t ↦ let refusal = rw t at answered in rw t refusal
      | inr f ↦ let said = rw f at answered in rw f (said ∙ ap (λ (x : Said). Some x) (same_said stable setting ask.act ask.source xs ys e))
    ]

-- the same one opened a session
opener_same : AreStable → (terms : TermsView) (a b : Before) → AreAlike terms a b → (host : List ℕ) (session : Option (List ℕ))
    → option_and_then (λ sid. the_one (openers terms a host sid)) session ≡ option_and_then (λ sid. the_one (openers terms b host sid)) session
opener_same stable terms a b alike host None = refl
opener_same stable terms a b alike host (Some sid) =
    one_alike stable.same_are_equal (λ sub. was_opened_from terms (a.own sub) host sid) (λ sub. was_opened_from terms (b.own sub) host sid) a.subs b.subs (alike.first host sid)
    (alike.second host sid) (λ sub. same_of terms (λ zs. was_opened_from terms zs host sid) (λ zs. stable.openers_stay terms zs host sid) (a.own sub) (b.own sub) (alike.acts_are sub))

settled_same : (identity : Identity) (message : MessageView) (find other : Act → Option Sub) → ((act : Act) → find act ≡ other act) → (verdict : Verdict)
    → settled identity message find verdict ≡ settled identity message other verdict
settled_same identity message find other same (verdicts.Asks sub act) = refl
settled_same identity message find other same (verdicts.Seeks act) = ap (found_or_refused identity message act) (same act)
settled_same identity message find other same (verdicts.Refused octets) = refl

verdict_moved : AreStable → (setting : Setting) (a b : Before) → AreAlike setting.plan.terms a b → (moment : ℕ) (host : List ℕ) (message : MessageView)
    → verdict_in setting a moment host message ≡ verdict_in setting b moment host message
verdict_moved stable setting a b alike moment host message =
    let terms = setting.plan.terms in
    settled_same setting.identity message (opener_of terms a host) (opener_of terms b host) (λ act. opener_same stable terms a b alike host (session_of_key act))
    (verdict_of setting moment host message)

received_moved : AreStable → (setting : Setting) (a b : Before) → AreAlike setting.plan.terms a b → (moment : ℕ) (what : Received) (sub : Sub)
    → received_ask setting a moment what sub ≡ received_ask setting b moment what sub
received_moved stable setting a b alike moment Received.Ignored sub = refl
received_moved stable setting a b alike moment Received.Broken sub = refl
received_moved stable setting a b alike moment (Received.Charging host message) sub =
    ap (λ (v : Verdict). request_ask message v sub) (verdict_moved stable setting a b alike moment host message)
received_moved stable setting a b alike moment (Received.Base peer message) sub = refl

-- an ask is by the peer that is named, and by who opened what
pub ask_moved : AreStable → (setting : Setting) (a b : Before) (sub : Sub) → AreAlike setting.plan.terms a b → (event : Event) → ask_for setting a event sub ≡ ask_for setting b event sub
ask_moved stable setting a b sub alike (events.Connect peer host) = refl
ask_moved stable setting a b sub alike (events.Disconnect peer) = refl
ask_moved stable setting a b sub alike (events.Message peer moment octets) =
    ap (λ (p : Option Peer). received_ask setting a moment (received_on p octets) sub) (alike.peers_are peer)
    ∙ received_moved stable setting a b alike moment (received_on (b.peers peer) octets) sub
ask_moved stable setting a b sub alike (events.TopUp moment owner ticket amount) = refl
ask_moved stable setting a b sub alike (events.Sweep moment) = refl

message_out_moved : AreStable → (setting : Setting) (a b : Before) → AreAlike setting.plan.terms a b → (moment : ℕ) (what : Received) (peer : ℕ) (out : Out)
    → IsMessageOut setting a moment what peer out → IsMessageOut setting b moment what peer out
message_out_moved stable setting a b alike moment Received.Ignored peer out is = is
message_out_moved stable setting a b alike moment Received.Broken peer out is = is
message_out_moved stable setting a b alike moment (Received.Charging host message) peer out is =
    (is.0, subst (λ (v : Verdict). IsOfNobody setting.identity message v out.octets) (verdict_moved stable setting a b alike moment host message) is.1)
message_out_moved stable setting a b alike moment (Received.Base from message) peer out is = is

out_moved : AreStable → (setting : Setting) (a b : Before) (out : Out) → AreAlike setting.plan.terms a b → (event : Event) → IsOut setting a event out → IsOut setting b event out
out_moved stable setting a b out alike (events.Connect peer host) is = is
out_moved stable setting a b out alike (events.Disconnect peer) is = is
out_moved stable setting a b out alike (events.Message peer moment octets) is =
    message_out_moved stable setting a b alike moment (received_on (b.peers peer) octets) peer out
    (subst (λ (p : Option Peer). IsMessageOut setting a moment (received_on p octets) peer out) (alike.peers_are peer) is)
out_moved stable setting a b out alike (events.TopUp moment owner ticket amount) is = is
out_moved stable setting a b out alike (events.Sweep moment) is = (is.0, is.1, is.2, λ sub there none. is.3 sub there (alike.acts_are sub ∙ none))

-- the same turn, from what comes to the same
pub next_moved : AreStable → (setting : Setting) (a b : Before) (turn : Turn) → AreAlike setting.plan.terms a b → IsNext setting a turn → IsNext setting b turn
next_moved stable setting a b turn alike next =
    record {
      subscribers = λ sub ask is. answered_moved stable setting ask sub turn.out (a.own sub) (b.own sub) (alike.acts_are sub)
          (next.subscribers sub ask (ask_moved stable setting a b sub alike turn.event ∙ is));
      whole = out_moved stable setting a b turn.out alike turn.event next.whole;
    }

-- what is said is by who answers and by the terms
pub said_setting : (a b : Setting) (before : List Act) (act : Act) (source : Source) (o : Outcome) → a.identity ≡ b.identity → a.plan.terms ≡ b.plan.terms
    → said_from a before act source o ≡ said_from b before act source o
said_setting a b before act (Message message) o identity terms = rw (identity, terms) refl
said_setting a b before act TopUp o identity terms = rw terms refl
said_setting a b before act Sweep o identity terms = refl
