-- The ends of a lane, as clauses see them.
use Rattle.std.specs.Prelude.{◌≡◌, ◌≢◌, ℕ, ◌+◌, ◌<◌, List, [], ◌∷◌, ◌++◌, Some, length, slice_get, vec_len}
use Rattle.std.specs.List.{All}
use mathlib.Core.List.{IsPrefix}
use Rattle.atomic_table.specs.Seated.{TableId}
use Rattle.std.specs.Arc.{arc_value}
use Rattle.crossbeam_queue.specs.Passes.{view, ruled_capacity}
use Rattle.dcc_lane.specs.declared.rule.Tagged.{Tagged}
use Rattle.dcc_lane.specs.declared.sender.Sender.{Sender}
use Rattle.dcc_lane.specs.declared.receiver.Receiver.{Receiver}
use Rattle.dcc_lane.specs.declared.receiver.Count.{Count}
use Rattle.dcc_lane.specs.declared.receiver.LaneFault.{LaneFault}
use Rattle.dcc_lane.specs.declared.receiver.LaneFault.TheVariants.{SenderMissing, Memory}
use Rattle.dcc_lane.specs.Rule.{of, IsIn}

module _ {T : Type 0} where
  -- the lane of an end
  abbrev pub lane_of : Receiver T → TableId
  lane_of r = r.pass.table_id

  abbrev pub lane_of_sender : Sender T → TableId
  lane_of_sender s = s.pass.table_id

  abbrev pub number_of : Sender T → ℕ
  number_of s = s.number

  -- the items that a sender put, in order
  abbrev pub put_of : Sender T → List T
  put_of s = (view s.pass).put

  -- the number of items for which the lane has room
  abbrev pub capacity_of : Receiver T → ℕ
  capacity_of r = ruled_capacity (arc_value r.shared).queue

  abbrev pub senders_of : Receiver T → ℕ
  senders_of r = vec_len r.taken

  -- the taken items, in order, each with its sender's number
  abbrev pub taken_of : Receiver T → List (Tagged T)
  taken_of r = (view r.pass).taken

  abbrev pub IsSameSender : Sender T → Sender T → Type 0
  IsSameSender s t = (lane_of_sender t ≡ lane_of_sender s) × (number_of t ≡ number_of s)

  abbrev pub IsSameReceiver : Receiver T → Receiver T → Type 0
  IsSameReceiver r t = (lane_of t ≡ lane_of r) × (senders_of t ≡ senders_of r)

  -- one more item was taken, of some sender
  abbrev pub TakesOne : Receiver T → T → Receiver T → Type 0
  TakesOne r x t = (k : ℕ) × (k < senders_of r) × (taken_of t ≡ taken_of r ++ record { from = k; item = x } ∷ [])

  -- senders of one lane that have put nothing, by their numbers
  abbrev pub AreNew : TableId → ℕ → List (Sender T) → Type 0
  AreNew lane from [] = Unit {0}
  AreNew lane from (s ∷ ss) = (lane_of_sender s ≡ lane) × (number_of s ≡ from) × (put_of s ≡ []) × AreNew lane (from + 1) ss

  abbrev pub IsOfLane : TableId → Sender T → Type 0
  IsOfLane lane s = lane_of_sender s ≡ lane

  -- the taken items of a sender are a beginning of the items that it put
  abbrev pub IsBegun : Receiver T → Sender T → Type 0
  IsBegun r s = IsPrefix (of (number_of s) (taken_of r)) (put_of s)

  -- each taken item is an item that its sender, one of these, put
  abbrev pub AreHeard : Receiver T → List (Sender T) → Type 0
  AreHeard r ss = (t : Tagged T) → IsIn t (taken_of r) → (s : Sender T) × IsIn s ss × (number_of s ≡ t.from) × IsIn t.item (put_of s)

  -- a sender of this number put so many items
  abbrev pub IsPutBy : List (Sender T) → ℕ → ℕ → Type 0
  IsPutBy ss k n = (s : Sender T) × ((i : ℕ) × (slice_get ss i ≡ Some s)) × (number_of s ≡ k) × (n ≡ length (put_of s))

  abbrev pub HasNoneOf : ℕ → List (Sender T) → Type 0
  HasNoneOf k ss = All (λ s. number_of s ≢ k) ss

  -- the counts of each sender are the number of the items that it put, and the number of its taken items
  abbrev pub AreCounts : Receiver T → List (Sender T) → List Count → Type 0
  AreCounts r ss cs = (k : ℕ) (c : Count) → slice_get cs k ≡ Some c → IsPutBy ss k c.put × (c.taken ≡ length (of k (taken_of r)))

  abbrev pub IsMissing : LaneFault → Receiver T → List (Sender T) → Type 0
  IsMissing SenderMissing r ss = (k : ℕ) × (k < senders_of r) × HasNoneOf k ss
  IsMissing Memory r ss = Unit {0}

  -- the knowledge that a sender's pass leaves with the receiver's pass
  abbrev pub left_by : Sender T → ℕ × List T
  left_by s = (number_of s, put_of s)
