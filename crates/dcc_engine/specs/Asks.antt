-- What an event asks of a subscriber, how it is answered, and the state in which it leaves its peer.
use Rattle.std.specs.Prelude.{◌≡◌, ◌≢◌, ℕ, Bool, true, false, ◌&&◌, ◌||◌, ◌==◌, if◌then◌else◌, List, [], ◌∷◌, ◌++◌}
use Rattle.std.specs.Prelude.{Option, Some, None, option_map, MatchBool}
use Rattle.dcc_tariff.specs.Terms.{TermsView}
use Rattle.dcc_message.specs.declared.identity.Identity.{Identity}
use Rattle.dcc_act.specs.declared.act.Act.{Act}
use Rattle.dcc_act.specs.declared.outcome.Outcome.{Outcome}
use Rattle.dcc_act.specs.declared.sub.Sub.{Sub}
use Rattle.dcc_act.specs.Subs.{same_sub}
use Rattle.dcc_act.specs.TopUps.{is_amount}
use Rattle.dcc_model.specs.Outcomes.{acts, place, is_new}
use Rattle.dcc_credit.specs.Answers.{answer_octets}
use Rattle.dcc_base.specs.Peers.{hears, replied}
use Rattle.dcc_base.specs.declared.peer.Peer.{Peer}
use Rattle.dcc_base.specs.declared.peer.Peer.TheVariants.{Wait, Open, Closed}
use Rattle.dcc_base.specs.declared.reply.Reply.{Reply}
use Rattle.dcc_shard.specs.Answers.{top_up_act, expiry_act, told}
use Rattle.dcc_shard.specs.Shards.{is_among, are_apart}
use Rattle.dcc_shard.specs.declared.answers.TopUpAnswer.{TopUpAnswer}
use Rattle.dcc_shard.specs.declared.answers.TopUpAnswer.TheVariants.{Done, Ceiling, Refused, BadAmount}
use Rattle.dcc_dispatch.specs.Settings.{Setting}
use Rattle.dcc_dispatch.specs.Refusals.{is_refusal, IsBusyOrNothing}
use Rattle.dcc_dispatch.specs.Messages as messages
use Rattle.dcc_dispatch.specs.Messages.{MessageView, Received, received_on}
use Rattle.dcc_dispatch.specs.declared.verdict.Verdict.{Verdict}
use Rattle.dcc_dispatch.specs.declared.verdict.Verdict.TheVariants as verdicts
use Rattle.dcc_engine.specs.declared.event.Event.{Event}
use Rattle.dcc_engine.specs.declared.event.Event.TheVariants as events
use Rattle.dcc_engine.specs.declared.event.Out.{Out}
use Rattle.dcc_engine.specs.Openers.{Before, verdict_in}

-- an event with its out
pub record Turn : Type 0 where
  pub event : Event
  pub out : Out

-- the source of an ask
pub data Source : Type 0 where
  Message : MessageView → Source
  TopUp : Source
  Sweep : Source

-- the act that an event asks of a subscriber's account, and the source of the ask
pub record Ask : Type 0 where
  pub act : Act
  pub source : Source

-- a request asks of its subscriber alone
abbrev pub request_ask : MessageView → Verdict → Sub → Option Ask
request_ask message (verdicts.Asks owner act) sub =
    if same_sub owner sub then Some (record { act = act; source = Message message }) else None
request_ask message (verdicts.Seeks act) sub = None
request_ask message (verdicts.Refused octets) sub = None

abbrev pub received_ask : Setting → Before → ℕ → Received → Sub → Option Ask
received_ask setting before moment Received.Ignored sub = None
received_ask setting before moment Received.Broken sub = None
received_ask setting before moment (Received.Charging host message) sub =
    request_ask message (verdict_in setting before moment host message) sub
received_ask setting before moment (Received.Base peer message) sub = None

-- What an event asks of a subscriber. A request on an open peer that its verdict does not refuse asks of the subscriber whom it names, or
-- who is found for it. A top-up of an amount within the limits asks of its subscriber. A sweep asks for each subscriber's expiry. Other
-- events ask of nobody.
abbrev pub ask_for : Setting → Before → Event → Sub → Option Ask
ask_for setting before (events.Connect peer host) sub = None
ask_for setting before (events.Disconnect peer) sub = None
ask_for setting before (events.Message peer moment octets) sub =
    received_ask setting before moment (received_on (before.peers peer) octets) sub
ask_for setting before (events.TopUp moment owner ticket amount) sub =
    if is_amount amount && same_sub owner sub then Some (record { act = top_up_act moment ticket amount; source = TopUp }) else None
ask_for setting before (events.Sweep moment) sub = Some (record { act = expiry_act moment; source = Sweep })

-- a message is refused by the busy answer or without an answer; a top-up, by the answer to it; an expiry, by the sweep's report
abbrev pub is_refused_top_up : Option TopUpAnswer → Bool
is_refused_top_up (Some Refused) = true
is_refused_top_up (Some BadAmount) = false
is_refused_top_up (Some (Done at fresh)) = false
is_refused_top_up (Some (Ceiling at fresh)) = false
is_refused_top_up None = false

abbrev pub is_refused_by : Source → Out → Sub → Bool
is_refused_by (Message message) out sub = is_refusal out.octets
is_refused_by TopUp out sub = is_refused_top_up out.top_up
is_refused_by Sweep out sub = out.refused_all || is_among sub out.refused

-- whether an out refuses what the event asked of this subscriber
abbrev pub is_refused_for : Ask → Out → Sub → Bool
is_refused_for ask out sub = is_refused_by ask.source out sub

-- the octets of an outcome, as the answer to a message
abbrev pub answer_to : Setting → MessageView → Outcome → List ℕ
answer_to setting message outcome =
    answer_octets setting.identity setting.plan.terms message.header (messages.proxies message) outcome

-- The answer to one subscriber in an out: the octets for a request, the answer to a top-up, or nothing for a sweep.
pub data Said : Type 0 where
  Octets : List ℕ → Said
  Told : Option TopUpAnswer → Said
  Nothing : Said

abbrev pub said_by : Source → Out → Said
said_by (Message message) out = Octets out.octets
said_by TopUp out = Told out.top_up
said_by Sweep out = Nothing

-- the answer by the outcome of an act that is asked after these entries
abbrev pub said_from : Setting → List Act → Act → Source → Outcome → Said
said_from setting before act (Message message) outcome = Octets (answer_to setting message outcome)
said_from setting before act TopUp outcome =
    Told (told outcome (place setting.plan.terms before act) (is_new setting.plan.terms before act))
said_from setting before act Sweep outcome = Nothing

abbrev pub said_of : Setting → List Act → Ask → Outcome → Said
said_of setting before ask outcome = said_from setting before ask.act ask.source outcome

-- the form of a refusal: of a request, the busy answer or no answer; of a top-up, the answer to it; of an expiry, nothing more
abbrev pub IsRefusalOfAsk : Identity → Source → Out → Type 0
IsRefusalOfAsk identity (Message message) out = IsBusyOrNothing identity message out.octets
IsRefusalOfAsk identity TopUp out = out.top_up ≡ Some Refused
IsRefusalOfAsk identity Sweep out = Unit {0}

-- The subscriber's own event is answered by its outcome, or refused.
abbrev pub IsAnsweredFor : Setting → List Act → Ask → Sub → Out → Option Outcome → Type 0
IsAnsweredFor setting before ask sub out outcome =
    MatchBool (is_refused_for ask out sub) (IsRefusalOfAsk setting.identity ask.source out)
    (Some (said_by ask.source out) ≡ option_map (said_of setting before ask) outcome)

-- an out of nothing but octets, or of nothing at all
abbrev pub out_octets : Option ℕ → List ℕ → Out
out_octets peer octets = record { peer = peer; octets = octets; close = false; top_up = None; refused = []; refused_all = false }

-- an out of a peer's reply
abbrev pub out_reply : ℕ → Reply → Out
out_reply peer reply = record { peer = Some peer; octets = reply.octets; close = reply.close; top_up = None; refused = []; refused_all = false }

-- an out that closes a peer's connection
abbrev pub out_close : ℕ → Out
out_close peer = record { peer = Some peer; octets = []; close = true; top_up = None; refused = []; refused_all = false }

-- an out of the answer to a top-up
abbrev pub out_top_up : TopUpAnswer → Out
out_top_up answer = record { peer = None; octets = []; close = false; top_up = Some answer; refused = []; refused_all = false }

-- an out of a sweep: the subscribers for whom it was refused, or that it was refused for all
abbrev pub out_sweep : List Sub → Bool → Out
out_sweep refused all = record { peer = None; octets = []; close = false; top_up = None; refused = refused; refused_all = all }

-- The reply of a peer to a message of the base protocol, by its own events alone, and its state after the message.
abbrev pub reply_to : Setting → Peer → MessageView → Reply × Peer
reply_to setting peer message = replied setting.identity peer message.header message.list

-- A message that has to be answered is refused if its answer is busy or absent. A message that isn't heard is never refused.
abbrev pub is_refused_message : Received → Out → Bool
is_refused_message Received.Ignored out = false
is_refused_message Received.Broken out = false
is_refused_message (Received.Charging host message) out = is_refusal out.octets
is_refused_message (Received.Base peer message) out = hears peer message.header && is_refusal out.octets

-- A credit-control message of nobody is answered by the refusal that its verdict has, or is refused as busy. The clause of the subscriber
-- defines the answer to any other credit-control message. No verdict seeks a subscriber any more here.
abbrev pub IsOfNobody : Identity → MessageView → Verdict → List ℕ → Type 0
IsOfNobody identity message (verdicts.Asks sub act) octets = Unit {0}
IsOfNobody identity message (verdicts.Seeks act) octets = Unit {0}
IsOfNobody identity message (verdicts.Refused refusal) octets =
    MatchBool (is_refusal octets) (IsBusyOrNothing identity message octets) (octets ≡ refusal)

abbrev pub IsMessageOut : Setting → Before → ℕ → Received → ℕ → Out → Type 0
IsMessageOut setting before moment Received.Ignored peer out = out ≡ out_octets (Some peer) []
IsMessageOut setting before moment Received.Broken peer out = out ≡ out_close peer
IsMessageOut setting before moment (Received.Charging host message) peer out =
    (out ≡ out_octets (Some peer) out.octets)
    × IsOfNobody setting.identity message (verdict_in setting before moment host message) out.octets
IsMessageOut setting before moment (Received.Base from message) peer out =
    MatchBool (is_refused_message (Received.Base from message) out)
    ((out ≡ out_octets (Some peer) out.octets) × IsBusyOrNothing setting.identity message out.octets)
    (out ≡ out_reply peer (reply_to setting from message).0)

-- each of these subscribers has acts: those that its own entries make
abbrev pub HaveActs : TermsView → (Sub → List Act) → List Sub → Type 0
HaveActs terms own subs = (sub : Sub) → is_among sub subs ≡ true → acts terms (own sub) ≢ []

-- The whole out of an event: its form, and the parts of it that belong to no subscriber.
abbrev pub IsOut : Setting → Before → Event → Out → Type 0
IsOut setting before (events.Connect peer host) out = out ≡ out_octets (Some peer) []
IsOut setting before (events.Disconnect peer) out = out ≡ out_octets (Some peer) []
IsOut setting before (events.Message peer moment octets) out =
    IsMessageOut setting before moment (received_on (before.peers peer) octets) peer out
IsOut setting before (events.TopUp moment sub ticket amount) out =
    (answer : TopUpAnswer) × (out ≡ out_top_up answer) × (is_amount amount ≡ false → answer ≡ BadAmount)
IsOut setting before (events.Sweep moment) out =
    (out ≡ out_sweep out.refused out.refused_all) × (are_apart out.refused ≡ true) × (out.refused_all ≡ true → out.refused ≡ [])
    × HaveActs setting.plan.terms before.own out.refused

-- whether an event is of this peer
abbrev pub is_from : ℕ → Event → Bool
is_from id (events.Connect peer host) = peer == id
is_from id (events.Disconnect peer) = peer == id
is_from id (events.Message peer moment octets) = peer == id
is_from id (events.TopUp moment sub ticket amount) = false
is_from id (events.Sweep moment) = false

-- a peer whose connection is made: under a host's name it is open at once, and otherwise it waits
abbrev pub connected : Option (List ℕ) → Peer
connected None = Wait
connected (Some host) = Open host

-- the peer after a message that is not refused
abbrev pub left_by : Setting → Received → Option Peer → Option Peer
left_by setting Received.Ignored peer = peer
left_by setting Received.Broken peer = Some Closed
left_by setting (Received.Charging host message) peer = peer
left_by setting (Received.Base from message) peer = Some (reply_to setting from message).1

abbrev pub left_with : Setting → Received → Out → Option Peer → Option Peer
left_with setting received out peer = if is_refused_message received out then peer else left_by setting received peer

-- a peer after an event of its own and the event's out: a refused message changes nothing
abbrev pub moved : Setting → Event → Out → Option Peer → Option Peer
moved setting (events.Connect id host) out peer = Some (connected host)
moved setting (events.Disconnect id) out peer = None
moved setting (events.Message id moment octets) out peer = left_with setting (received_on peer octets) out peer
moved setting (events.TopUp moment sub ticket amount) out peer = peer
moved setting (events.Sweep moment) out peer = peer

abbrev pub moved_by : Setting → ℕ → Turn → Option Peer → Option Peer
moved_by setting id turn peer = if is_from id turn.event then moved setting turn.event turn.out peer else peer

-- a subscriber's own entries after one more event: with the act that the event asked for, if it was not refused
abbrev pub own_with : Option Ask → Out → Sub → List Act → List Act
own_with None out sub before = before
own_with (Some ask) out sub before = if is_refused_for ask out sub then before else before ++ ask.act ∷ []

-- the subscribers whom an event names, or who are found for it; none for a sweep, which opens no session
abbrev pub verdict_owners : Verdict → List Sub
verdict_owners (verdicts.Asks sub act) = sub ∷ []
verdict_owners (verdicts.Seeks act) = []
verdict_owners (verdicts.Refused octets) = []

abbrev pub received_owners : Setting → Before → ℕ → Received → List Sub
received_owners setting before moment Received.Ignored = []
received_owners setting before moment Received.Broken = []
received_owners setting before moment (Received.Charging host message) =
    verdict_owners (verdict_in setting before moment host message)
received_owners setting before moment (Received.Base peer message) = []

abbrev pub owners_of : Setting → Before → Event → List Sub
owners_of setting before (events.Connect peer host) = []
owners_of setting before (events.Disconnect peer) = []
owners_of setting before (events.Message peer moment octets) =
    received_owners setting before moment (received_on (before.peers peer) octets)
owners_of setting before (events.TopUp moment sub ticket amount) = sub ∷ []
owners_of setting before (events.Sweep moment) = []

-- the state before the next event
abbrev pub after_turn : Setting → Turn → Before → Before
after_turn setting turn before =
    record {
      peers = λ id. moved_by setting id turn (before.peers id);
      own = λ sub. own_with (ask_for setting before turn.event sub) turn.out sub (before.own sub);
      subs = owners_of setting before turn.event ++ before.subs;
    }
