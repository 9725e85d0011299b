-- The end of a round's lanes, once its threads have ended.
use Rattle.std.specs.Prelude.{◌≡◌, List, [], ◌∷◌, ◌++◌, Option, Some, None}
use Rattle.std.specs.Global.{Vec}
use Rattle.std.specs.List.{filter_map}
use Rattle.atomic_table.specs.Seated.{TableId}
use Rattle.dcc_connect.specs.declared.writing.Item.{Item}
use Rattle.dcc_lane.specs.Ends.{lane_of, lane_of_sender}
use Rattle.dcc_lane.specs.declared.receiver.Receiver.{Receiver}
use Rattle.dcc_lane.specs.declared.sender.Sender.{Sender}
use Rattle.dcc_rounds.specs.Counting.{seat_in}
use Rattle.dcc_rounds.specs.Lanes.{AreAllHeard, AreOfLanes, lanes_of, lists_of}
use Rattle.dcc_rounds.specs.declared.finishing.Parts.{Parts}
use Rattle.dcc_rounds.specs.declared.tasks.Task.{Task}
use Rattle.dcc_rounds.specs.declared.tasks.Task.TheVariants as task
use Rattle.dcc_rounds.specs.declared.work.Work.{Work}

-- the lanes of which a thread has ends
pub record Ends : Type 0 where
  pub work : Option TableId
  pub asks : Option (List TableId)
  pub items : Option TableId
  pub reply : Option TableId
  pub answers : Option (List TableId)

-- the timer, each reader and each worker of some threads has a sender of each lane into which it puts
pub record AreTied (ends : List Ends) : Type 0 where
  pub asked : AreOfLanes (filter_map (λ (e : Ends). e.work) ends) (filter_map (λ (e : Ends). e.asks) ends)
  pub answered : AreOfLanes (filter_map (λ (e : Ends). e.items) ends) (filter_map (λ (e : Ends). e.reply) ends ∷ filter_map (λ (e : Ends). e.answers) ends)

-- a list with one item more, if there is such an item
abbrev pub with : {X : Type 0} → List X → Option X → List X
with xs None = xs
with xs (Some x) = xs ++ x ∷ []

module _ {I O : Type 0} where
  -- the lane from which a worker takes, and its senders to the writers
  abbrev pub work_in : Task I O → Option (Receiver Work)
  work_in (task.Work worker) = Some worker.from
  work_in (task.Time timer) = None
  work_in (task.Place place) = None
  work_in (task.Attend attendant) = None

  abbrev pub answers_of : Task I O → Option (Vec (Sender Item))
  answers_of (task.Work worker) = Some worker.writers
  answers_of (task.Time timer) = None
  answers_of (task.Place place) = None
  answers_of (task.Attend attendant) = None

  -- the senders of the timer and of a place's reader to the workers, and the sender of the reader to its writer
  abbrev pub asks_of : Task I O → Option (Vec (Sender Work))
  asks_of (task.Work worker) = None
  asks_of (task.Time timer) = Some timer.workers
  asks_of (task.Place place) = Some place.reader.workers
  asks_of (task.Attend attendant) = None

  abbrev pub reply_of : Task I O → Option (Sender Item)
  reply_of (task.Work worker) = None
  reply_of (task.Time timer) = None
  reply_of (task.Place place) = Some place.reader.writer
  reply_of (task.Attend attendant) = None

  -- the lane from which a place's writer takes
  abbrev pub items_in : Task I O → Option (Receiver Item)
  items_in (task.Work worker) = None
  items_in (task.Time timer) = None
  items_in (task.Place place) = Some place.from
  items_in (task.Attend attendant) = None

  abbrev pub ends_in : Task I O → Ends
  ends_in (task.Work worker) =
      record { work = Some (lane_of worker.from); asks = None; items = None; reply = None; answers = Some (lanes_of worker.writers.items) }
  ends_in (task.Time timer) = record { work = None; asks = Some (lanes_of timer.workers.items); items = None; reply = None; answers = None }
  ends_in (task.Place place) = record {
    work = None;
    asks = Some (lanes_of place.reader.workers.items);
    items = Some (lane_of place.from);
    reply = Some (lane_of_sender place.reader.writer);
    answers = None;
  }
  ends_in (task.Attend attendant) = record { work = None; asks = None; items = None; reply = None; answers = None }

  -- the ends and the seat of a thread are added behind those of the threads before, each to its own kind
  pub record AddsTask (one : Task I O) (old new : Parts) : Type 0 where
    pub seats : new.seats.items ≡ with old.seats.items (seat_in one)
    pub work : new.work.items ≡ with old.work.items (work_in one)
    pub answers : new.answers.items ≡ with old.answers.items (answers_of one)
    pub asks : new.asks.items ≡ with old.asks.items (asks_of one)
    pub replies : new.replies.items ≡ with old.replies.items (reply_of one)
    pub items : new.items.items ≡ with old.items.items (items_in one)

  -- the ends and the seats of some threads, each with those of its kind
  pub record ArePartsOf (tasks : List (Task I O)) (parts : Parts) : Type 0 where
    pub seats : parts.seats.items ≡ filter_map seat_in tasks
    pub work : parts.work.items ≡ filter_map work_in tasks
    pub asks : parts.asks.items ≡ filter_map asks_of tasks
    pub items : parts.items.items ≡ filter_map items_in tasks
    pub replies : parts.replies.items ≡ filter_map reply_of tasks
    pub answers : parts.answers.items ≡ filter_map answers_of tasks

  -- The items that a shard's worker took from the timer, and from a place's reader, are a beginning of the items that this sender put for it, and the
  -- worker took nothing else. The same holds of the items that a place's writer took from its reader and from each worker.
  pub record AreFinished (tasks : List (Task I O)) : Type 0 where
    pub asked : AreAllHeard (filter_map work_in tasks) (lists_of (filter_map asks_of tasks))
    pub answered : AreAllHeard (filter_map items_in tasks) (filter_map reply_of tasks ∷ lists_of (filter_map answers_of tasks))
