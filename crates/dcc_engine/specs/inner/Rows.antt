-- The row of a peer.
use Rattle.std.specs.Prelude.{◌≡◌, ℕ, ◌<◌, ◌==◌, if◌then◌else◌, List, length, slice_index_or, slice_set, Some}
use Rattle.dcc_base.specs.declared.peer.Peer.{Peer}
use Rattle.dcc_engine.specs.declared.peers.PeerRow.{PeerRow}
use Rattle.dcc_engine.specs.Engines.{peer_in}

-- the peer stands in row i, and a peer that is written there replaces it
pub record IsAt (rows : List PeerRow) (id i : ℕ) : Type 0 where
  pub within : i < length rows
  pub here : (none : PeerRow) → peer_in rows id ≡ Some (slice_index_or rows i none).peer
  pub named : (none : PeerRow) → (slice_index_or rows i none).id ≡ id
  pub changed : (given : Peer) (q : ℕ)
      → peer_in (slice_set rows i (record { id = id; peer = given })) q ≡ (if id == q then Some given else peer_in rows q)
