-- The decision on a message to a peer, and the peer afterwards.
use Rattle.std.specs.Prelude.{◌≡◌, ℕ, true, false, ◌&&◌, List, Option, option_map, is_some, MatchBool}
use Rattle.dcc_message.specs.HeaderView.{HeaderView}
use Rattle.dcc_message.specs.declared.identity.Identity.{Identity}
use Rattle.dcc_act.specs.declared.act.Act.{Act}
use Rattle.dcc_act.specs.declared.request_key.RequestKey.{RequestKey}
use Rattle.dcc_model.specs.Keys.{request_key}
use Rattle.dcc_base.specs.Peers.{hears, replied, silent, shut}
use Rattle.dcc_base.specs.declared.peer.Peer.{Peer}
use Rattle.dcc_base.specs.declared.peer.Peer.TheVariants.{Closed}
use Rattle.dcc_base.specs.declared.reply.Reply.{Reply}
use Rattle.dcc_dispatch.specs.Messages as messages
use Rattle.dcc_dispatch.specs.Messages.{MessageView, Received}
use Rattle.dcc_dispatch.specs.Refusals.{is_refusal, IsBusyOrNothing}
use Rattle.dcc_dispatch.specs.Settings.{Setting}
use Rattle.dcc_dispatch.specs.Sought.{SoughtView, is_report}
use Rattle.dcc_dispatch.specs.Verdicts.{verdict_of}
use Rattle.dcc_dispatch.specs.declared.decide.Dispatched.{Dispatched}
use Rattle.dcc_dispatch.specs.declared.decide.Dispatched.TheVariants as dispatcheds
use Rattle.dcc_dispatch.specs.declared.asked.Asked.{Asked}
use Rattle.dcc_dispatch.specs.declared.settled.Settled.{Settled}
use Rattle.dcc_dispatch.specs.declared.settled.Settled.TheVariants as settleds
use Rattle.dcc_dispatch.specs.declared.verdict.Verdict.{Verdict}
use Rattle.dcc_dispatch.specs.declared.verdict.Verdict.TheVariants.{Asks, Seeks, Refused}

-- the session in an act's key, if the act is a request's (RFC 8506, section 8.2)
abbrev pub session_of_key : Act → Option (List ℕ)
session_of_key act = option_map (λ (key : RequestKey). key.sid) (request_key act.kind)

-- A message of this verdict asks a subscriber for an act, which is a request's of the message's own session. The answer is written under
-- the header that was read, with the proxies of the message's list.
pub record IsAsked (message : MessageView) (verdict : Verdict) (asked : Asked) : Type 0 where
  pub verdict_is : verdict ≡ Asks asked.sub asked.act
  pub session_is : messages.session message ≡ session_of_key asked.act
  pub request : is_some (request_key asked.act.kind) ≡ true
  pub header_is : asked.header ≡ message.header
  pub proxies_are : asked.proxies ≡ messages.proxies message

-- A message of this verdict seeks the subscriber who is asked for an act: of an update or a termination of the message's own session.
pub record IsSought (message : MessageView) (verdict : Verdict) (sought : SoughtView) : Type 0 where
  pub verdict_is : verdict ≡ Seeks sought.act
  pub session_is : messages.session message ≡ session_of_key sought.act
  pub report : is_report sought.act.kind ≡ true
  pub header_is : sought.header ≡ message.header
  pub proxies_are : sought.proxies ≡ messages.proxies message

-- A message of this verdict is refused for its fault; or if memory is refused, it is answered busy, or not at all.
abbrev pub IsRefused : Identity → MessageView → Verdict → List ℕ → Type 0
IsRefused identity message verdict octets =
    MatchBool (is_refusal octets) (IsBusyOrNothing identity message octets) (verdict ≡ Refused octets)

-- A message of this verdict whose subscriber is known, or was not found: its subscriber is asked, or it is refused, and then the connection stays.
abbrev pub IsSettled : Identity → MessageView → Verdict → Settled → Type 0
IsSettled identity message verdict (settleds.Asked asked) = IsAsked message verdict asked
IsSettled identity message verdict (settleds.Replied reply) = IsRefused identity message verdict reply.octets × (reply.close ≡ false)

-- Any other message has the reply of its definition, and leaves the peer as that says; or if memory is refused, it is answered busy, or
-- not at all, and the peer is as it was. A message that isn't heard takes no memory.
abbrev pub IsReplied : Identity → (old new : Peer) → MessageView → Reply → Type 0
IsReplied identity old new message reply =
    MatchBool (hears old message.header && is_refusal reply.octets)
    (IsBusyOrNothing identity message reply.octets × (reply.close ≡ false) × (new ≡ old))
    ((reply, new) ≡ replied identity old message.header message.list)

-- A reply at once, and the peer afterwards: a closed peer replies nothing; octets that are no message close the connection without an
-- answer; a refused credit-control request leaves the connection and the peer as they are.
abbrev pub IsRepliedTo : Setting → ℕ → Received → (old new : Peer) → Reply → Type 0
IsRepliedTo setting moment Received.Ignored old new reply = (reply ≡ silent) × (new ≡ old)
IsRepliedTo setting moment Received.Broken old new reply = (reply ≡ shut) × (new ≡ Closed)
IsRepliedTo setting moment (Received.Charging host message) old new reply =
    IsRefused setting.identity message (verdict_of setting moment host message) reply.octets × (reply.close ≡ false) × (new ≡ old)
IsRepliedTo setting moment (Received.Base from message) old new reply = IsReplied setting.identity old new message reply

-- a fact of the asked act, of the sought act, of the header of either, or of the reply
abbrev pub IfAsked : Dispatched → (Asked → Type 0) → Type 0
IfAsked (dispatcheds.Asked asked) P = P asked
IfAsked (dispatcheds.Sought sought) P = Unit {0}
IfAsked (dispatcheds.Replied reply) P = Unit {0}

abbrev pub IfSought : Dispatched → (SoughtView → Type 0) → Type 0
IfSought (dispatcheds.Asked asked) P = Unit {0}
IfSought (dispatcheds.Sought sought) P = P sought
IfSought (dispatcheds.Replied reply) P = Unit {0}

abbrev pub IfCharging : Dispatched → (HeaderView → Type 0) → Type 0
IfCharging (dispatcheds.Asked asked) P = P asked.header
IfCharging (dispatcheds.Sought sought) P = P sought.header
IfCharging (dispatcheds.Replied reply) P = Unit {0}

abbrev pub IfReplied : Dispatched → (Reply → Type 0) → Type 0
IfReplied (dispatcheds.Asked asked) P = Unit {0}
IfReplied (dispatcheds.Sought sought) P = Unit {0}
IfReplied (dispatcheds.Replied reply) P = P reply
