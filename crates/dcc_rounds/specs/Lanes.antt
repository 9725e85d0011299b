-- Lanes, and the items that are put into them.
use Rattle.std.specs.Prelude.{◌≡◌, ℕ, zero, suc, List, [], ◌∷◌, ◌++◌, map, length, Option, Some, None}
use Rattle.std.specs.Global.{Vec}
use Rattle.std.specs.List.{All, AllByRecursion}
use Rattle.atomic_table.specs.Seated.{TableId}
use Rattle.dcc_lane.specs.Ends.{AreHeard, IsBegun, capacity_of, lane_of, lane_of_sender, put_of, senders_of, taken_of}
use Rattle.dcc_lane.specs.declared.receiver.Receiver.{Receiver}
use Rattle.dcc_lane.specs.declared.sender.Sender.{Sender}
use Rattle.dcc_rounds.specs.declared.lanes.Lanes.{Lanes}
use Rattle.dcc_rounds.specs.declared.lanes.TheConstants.{CAPACITY}

-- the items that each of these senders put
abbrev pub all_put : {T : Type 0} → List (Sender T) → List (List T)
all_put senders = map put_of senders

-- the first item was taken, if there was any
abbrev pub TakesFirst : {X : Type 0} → Option X → List X → List X → Type 0
TakesFirst None old new = (old ≡ []) × (new ≡ [])
TakesFirst (Some first) old new = old ≡ first ∷ new

-- an item goes into the lane of this index, behind the items that were put there, and into no other lane
abbrev pub put_into : {T : Type 0} → ℕ → T → List (List T) → List (List T)
put_into index item [] = []
put_into zero item (lane ∷ lanes) = (lane ++ item ∷ []) ∷ lanes
put_into (suc index) item (lane ∷ lanes) = lane ∷ put_into index item lanes

-- an item goes into each of the first so many lanes
abbrev pub put_first : {T : Type 0} → ℕ → T → List (List T) → List (List T)
put_first count item [] = []
put_first zero item (lane ∷ lanes) = lane ∷ lanes
put_first (suc count) item (lane ∷ lanes) = (lane ++ item ∷ []) ∷ put_first count item lanes

-- an item goes into all lanes
abbrev pub put_all : {T : Type 0} → T → List (List T) → List (List T)
put_all item lanes = map (λ lane. lane ++ item ∷ []) lanes

module _ {T : Type 0} where
  -- no item was taken from the lane, which has so many senders and the room of a round's lanes
  abbrev pub IsNewReceiver : ℕ → Receiver T → Type 0
  IsNewReceiver senders receiver = (senders_of receiver ≡ senders) × (taken_of receiver ≡ []) × (capacity_of receiver ≡ CAPACITY)

  abbrev pub IsNewSender : Sender T → Type 0
  IsNewSender sender = put_of sender ≡ []

  -- a sender of the lane of each of these receivers, in order, which has put nothing
  abbrev pub AreDealt : List (Receiver T) → List (Sender T) → Type 0
  AreDealt receivers senders = (map lane_of_sender senders ≡ map lane_of receivers) × AllByRecursion IsNewSender senders

  -- the lanes into which these senders put
  abbrev pub lanes_of : List (Sender T) → List TableId
  lanes_of senders = map lane_of_sender senders

  abbrev pub lists_of : List (Vec (Sender T)) → List (List (Sender T))
  lists_of lists = map (λ (senders : Vec (Sender T)). senders.items) lists

  -- a lane for each of so many takers, and a sender of each lane for each of so many putters
  pub record AreLanes (takers putters : ℕ) (lanes : Lanes T) : Type 0 where
    pub receivers : length lanes.receivers.items ≡ takers
    pub new : AllByRecursion (IsNewReceiver putters) lanes.receivers.items
    pub lists : length lanes.senders.items ≡ putters
    pub dealt : AllByRecursion (AreDealt lanes.receivers.items) (lists_of lanes.senders.items)

  -- each list has one more sender, in order
  abbrev pub deal : List (List (Sender T)) → List (Sender T) → List (List (Sender T))
  deal [] senders = []
  deal (list ∷ lists) [] = list ∷ lists
  deal (list ∷ lists) (sender ∷ senders) = (list ++ sender ∷ []) ∷ deal lists senders

  -- the first sender of each list, and the senders behind it
  abbrev pub firsts : List (List (Sender T)) → List (Sender T)
  firsts [] = []
  firsts ([] ∷ lists) = firsts lists
  firsts ((sender ∷ senders) ∷ lists) = sender ∷ firsts lists

  abbrev pub rests : List (List (Sender T)) → List (List (Sender T))
  rests [] = []
  rests ([] ∷ lists) = [] ∷ rests lists
  rests ((sender ∷ senders) ∷ lists) = senders ∷ rests lists

  -- the taken items of each of these senders are a beginning of the items that it put, and no other item was taken
  pub record IsHeard (receiver : Receiver T) (senders : List (Sender T)) : Type 0 where
    pub begun : All (IsBegun receiver) senders
    pub heard : AreHeard receiver senders

  -- the same for each lane and its sender of each list
  abbrev pub AreAllHeard : List (Receiver T) → List (List (Sender T)) → Type 0
  AreAllHeard [] lists = Unit {0}
  AreAllHeard (receiver ∷ receivers) lists = IsHeard receiver (firsts lists) × AreAllHeard receivers (rests lists)

-- in each list stands a sender of each of these lanes, in order
abbrev pub AreOfLanes : List TableId → List (List TableId) → Type 0
AreOfLanes lanes lists = AllByRecursion (λ list. list ≡ lanes) lists
