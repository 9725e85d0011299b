-- One turn: an event, its out, and the engine after both.
use Rattle.std.specs.Prelude.{◌≡◌, ℕ, ◌==◌, if◌then◌else◌, List, Option, Some, option_and_then}
use Rattle.dcc_base.specs.declared.peer.Peer.{Peer}
use Rattle.dcc_act.specs.declared.act.Act.{Act}
use Rattle.dcc_act.specs.declared.sub.Sub.{Sub}
use Rattle.dcc_model.specs.Outcomes.{after, acts}
use Rattle.dcc_base.specs.Peers.{host_of_peer}
use Rattle.dcc_shard.specs.Answers.{IsAnswer, IsToldApart, is_judged, octets_of}
use Rattle.dcc_shard.specs.Shards.{ShardView, held, IsStep}
use Rattle.dcc_shard.specs.declared.answers.RequestAnswer.{RequestAnswer}
use Rattle.dcc_dispatch.specs.Dispatches.{IfAsked, IfSought, IfCharging, IfReplied, IsAsked, IsSought, IsRepliedTo}
use Rattle.dcc_dispatch.specs.Messages.{host_name, message_view, received}
use Rattle.dcc_dispatch.specs.Messages.Received.{Charging}
use Rattle.dcc_dispatch.specs.Settings.{Setting}
use Rattle.dcc_dispatch.specs.Verdicts.{verdict_of}
use Rattle.dcc_dispatch.specs.declared.asked.Asked.{Asked}
use Rattle.dcc_dispatch.specs.declared.decide.Dispatched.{Dispatched}
use Rattle.dcc_engine.specs.declared.peers.PeerRow.{PeerRow}
use Rattle.dcc_engine.specs.Engines.{EngineView, peer_in, peer_of, held_of, subs_in}
use Rattle.dcc_engine.specs.Openers.{Before}
use Rattle.dcc_engine.specs.Asks.{Turn, Ask, ask_for, own_with, moved_by, IsAnsweredFor, IsOut}

-- the state before the next event of an engine: its peers, and its held acts as own entries
abbrev pub now_with : (ℕ → Option Peer) → ShardView → Before
now_with peers shard = record { peers = peers; own = held shard; subs = subs_in shard }

abbrev pub now_of : EngineView → Before
now_of engine = now_with (peer_of engine) engine.shard

-- the name of a peer's host, if the peer is connected and open
abbrev pub host_on : Option Peer → Option (List ℕ)
host_on peer = option_and_then host_of_peer peer

-- a turn is answered by the state before it
pub record IsNext (setting : Setting) (before : Before) (turn : Turn) : Type 0 where
  pub subscribers : (sub : Sub) (ask : Ask) → ask_for setting before turn.event sub ≡ Some ask
      → IsAnsweredFor setting (before.own sub) ask sub turn.out (Some (after setting.plan.terms (before.own sub) ask.act))
  pub whole : IsOut setting before turn.event turn.out

-- a turn is answered by the state before it, and the held acts after it are those that it made
pub record IsJudged (setting : Setting) (before : Before) (then_held : Sub → List Act) (turn : Turn) : Type 0 where
  pub next : IsNext setting before turn
  pub held : (sub : Sub) → then_held sub
      ≡ acts setting.plan.terms (own_with (ask_for setting before turn.event sub) turn.out sub (before.own sub))

-- a turn is judged, and moved its peer
pub record IsTurnDone (old new : EngineView) (turn : Turn) : Type 0 where
  pub judged : IsJudged old.setting (now_of old) (held_of new) turn
  pub peers : (id : ℕ) → peer_of new id ≡ moved_by old.setting id turn (peer_of old id)
  pub setting : new.setting ≡ old.setting

-- a peer heard a message; all other peers stay
pub record IsHeard (setting : Setting) (old new : List PeerRow) (id moment : ℕ) (octets : List ℕ) (made : Dispatched) : Type 0 where
  pub from : Peer
  pub to : Peer
  pub from_is : peer_in old id ≡ Some from
  pub charging : IfCharging made (λ header. received from octets ≡ Charging (host_name from) (message_view header octets))
  pub asked : IfAsked made (λ asked. IsAsked (message_view asked.header octets)
      (verdict_of setting moment (host_name from) (message_view asked.header octets)) asked)
  pub sought : IfSought made (λ sought. IsSought (message_view sought.header octets)
      (verdict_of setting moment (host_name from) (message_view sought.header octets)) sought)
  pub kept : IfCharging made (λ header. to ≡ from)
  pub named : IfCharging made (λ header. host_of_peer from ≡ Some (host_name from))
  pub replied : IfReplied made (λ reply. IsRepliedTo setting moment (received from octets) from to reply)
  pub rows : (q : ℕ) → peer_in new q ≡ (if id == q then Some to else peer_in old q)

-- a subscriber's account was asked for an act, and the octets are those of its answer
pub record IsHandedOn (old new : ShardView) (asked : Asked) (octets : List ℕ) : Type 0 where
  pub answer : RequestAnswer
  pub is : IsAnswer old asked.sub asked.act asked.header asked.proxies answer
  pub step : IsStep old new (is_judged answer) asked.sub asked.act
  pub apart : IsToldApart answer
  pub octets_are : octets ≡ octets_of answer
