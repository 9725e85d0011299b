-- The threads of a round at its beginning.
use Rattle.std.specs.Prelude.{◌≡◌, ℕ, zero, suc, ◌+◌, Bool, not, List, [], ◌∷◌, ◌++◌, length, Option, is_some}
use Rattle.std.specs.Global.{Vec}
use Rattle.std.specs.List.{AllByRecursion}
use Rattle.dcc_base.specs.declared.peer.Peer.TheVariants.{Wait}
use Rattle.dcc_connect.specs.declared.writing.Item.{Item}
use Rattle.dcc_lane.specs.declared.receiver.Receiver.{Receiver}
use Rattle.dcc_lane.specs.declared.sender.Sender.{Sender}
use Rattle.dcc_rounds.specs.Lanes.{AreLanes}
use Rattle.dcc_rounds.specs.Rounds.{RoundsView}
use Rattle.dcc_rounds.specs.declared.face.Connection.{Connection}
use Rattle.dcc_rounds.specs.declared.lanes.Lanes.{Lanes}
use Rattle.dcc_rounds.specs.declared.tasks.Task.{Task}
use Rattle.dcc_rounds.specs.declared.tasks.Task.TheVariants as task
use Rattle.dcc_rounds.specs.declared.work.Work.{Work}

module _ {I O : Type 0} where
  -- the workers of the shards from this one on: each takes from its own lane, has its own senders to the writers, and has no receipt, no sweep and no audit yet
  abbrev pub workers_from : ℕ → List (Receiver Work) → List (Vec (Sender Item)) → List (Task I O)
  workers_from shard [] senders = []
  workers_from shard (from ∷ receivers) [] = []
  workers_from shard (from ∷ receivers) (writers ∷ senders) =
      task.Work (record { shard = shard; seat = []; counter = record { lists = 0; shard = shard; left = 0; asked = 0; audits = 0 }; from = from; writers = writers }) ∷ workers_from (shard + 1) receivers senders

  -- a place has its own senders to the workers and one to its own writer; it has served nobody
  abbrev pub place_of : (stays : Bool) → (every gate : ℕ) → Option (Connection I O) → Receiver Item → Vec (Sender Work) → Sender Item → Task I O
  place_of stays every gate first from workers writer =
      task.Place (record {
        first = first;
        stays = stays;
        reader = record { gate = gate; peer = Wait; workers = workers; writer = writer; sweeps = record { every = every; since = 0 }; requests = 0 };
        from = from;
        answers = 0;
      })

  -- the places from this place on, each with the gateway that came for it, if a gateway came
  abbrev pub places_from : (stays : Bool) → (every gate : ℕ) → List (Option (Connection I O)) → List (Receiver Item) → List (Vec (Sender Work)) → List (Sender Item) → List (Task I O)
  places_from stays every gate [] receivers senders replies = []
  places_from stays every gate (first ∷ firsts) [] senders replies = []
  places_from stays every gate (first ∷ firsts) (from ∷ receivers) [] replies = []
  places_from stays every gate (first ∷ firsts) (from ∷ receivers) (workers ∷ senders) [] = []
  places_from stays every gate (first ∷ firsts) (from ∷ receivers) (workers ∷ senders) (writer ∷ replies) =
      place_of stays every gate first from workers writer ∷ places_from stays every (gate + 1) firsts receivers senders replies

  -- a gateway came for each place, or for none if places are taken again
  abbrev pub HasCome : Bool → Option (Connection I O) → Type 0
  HasCome stays first = is_some first ≡ not stays

  -- so many places were made
  abbrev pub AddsPlaces : RoundsView → List (Receiver Item) → List (Vec (Sender Work)) → List (Sender Item) → List (Task I O) → List (Task I O) → Type 0
  AddsPlaces rounds receivers senders replies old new =
      (firsts : List (Option (Connection I O))) × (length firsts ≡ rounds.gates) × AllByRecursion (HasCome rounds.stays) firsts
      × (new ≡ old ++ places_from rounds.stays rounds.every 0 firsts receivers senders replies)

  abbrev pub timer_of : Bool → Vec (Sender Work) → Task I O
  timer_of stays workers = task.Time (record { stays = stays; workers = workers })

  -- so many attendants, each with a seat of its own without receipts
  abbrev pub attendants_of : ℕ → List (Task I O)
  attendants_of zero = []
  attendants_of (suc count) = task.Attend (record { seat = [] }) ∷ attendants_of count

  -- A lane is made to each shard's worker, with a sender for each place and one for the timer. A lane is made to each place's writer, with a sender
  -- for its reader and one for each shard. The threads are the worker of each shard, the timer, the places, and the attendants.
  pub record AreGathered (shards : ℕ) (rounds : RoundsView) (tasks : List (Task I O)) : Type 0 where
    pub work : Lanes Work
    pub items : Lanes Item
    pub timers : Vec (Sender Work)
    pub asks : List (Vec (Sender Work))
    pub replies : Vec (Sender Item)
    pub answers : List (Vec (Sender Item))
    pub placed : List (Task I O)
    pub work_are : AreLanes shards (rounds.gates + 1) work
    pub items_are : AreLanes rounds.gates (shards + 1) items
    pub asked : work.senders.items ≡ timers ∷ asks
    pub dealt : items.senders.items ≡ replies ∷ answers
    pub placed_are : AddsPlaces rounds items.receivers.items asks replies.items
        (workers_from 0 work.receivers.items answers ++ timer_of rounds.stays timers ∷ []) placed
    pub tasks_are : tasks ≡ placed ++ attendants_of rounds.attendants
