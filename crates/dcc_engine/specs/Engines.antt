-- The state of an engine: the setting by which events are answered, its peers, and its accounts.
use Rattle.std.specs.Prelude.{◌≡◌, ℕ, ◌==◌, ◌∷◌, List, [], map, Option, Some, None, if◌then◌else◌}
use Rattle.dcc_base.specs.declared.peer.Peer.{Peer}
use Rattle.dcc_act.specs.declared.act.Act.{Act}
use Rattle.dcc_act.specs.declared.sub.Sub.{Sub}
use Rattle.dcc_shard.specs.Shards.{ShardView, held}
use Rattle.dcc_dispatch.specs.Settings.{Setting}
use Rattle.dcc_engine.specs.declared.peers.PeerRow.{PeerRow}

-- the peers, and the number of further peers for which there is memory
pub record PeersView : Type 0 where
  pub rows : List PeerRow
  pub room : ℕ

pub record EngineView : Type 0 where
  pub setting : Setting
  pub peers : PeersView
  pub shard : ShardView
  -- the number of its shards
  pub shards : ℕ

-- a peer, if it is connected
abbrev pub peer_in : List PeerRow → ℕ → Option Peer
peer_in [] id = None
peer_in (row ∷ rows) id = if row.id == id then Some row.peer else peer_in rows id

abbrev pub peer_of : EngineView → ℕ → Option Peer
peer_of engine id = peer_in engine.peers.rows id

-- the held acts of a subscriber, in order
abbrev pub held_of : EngineView → Sub → List Act
held_of engine sub = held engine.shard sub

-- the subscribers who have an account in a shard, or in an engine
abbrev pub subs_in : ShardView → List Sub
subs_in shard = map (λ row. row.0) shard.rows

abbrev pub subs_of : EngineView → List Sub
subs_of engine = subs_in engine.shard

-- nothing that a peer or a subscriber could notice has changed
pub record IsUnchanged (old new : EngineView) : Type 0 where
  pub setting : new.setting ≡ old.setting
  pub peers : (id : ℕ) → peer_of new id ≡ peer_of old id
  pub held : (sub : Sub) → held_of new sub ≡ held_of old sub
  pub shards : new.shards ≡ old.shards
