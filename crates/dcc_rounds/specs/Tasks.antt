-- The work of a round's threads.
use Rattle.std.specs.Prelude.{◌≡◌, ℕ, ◌<◌, ◌≤◌, List, length, slice_index_or, Option}
use Rattle.dcc_dispatch.specs.Settings.{Setting}
use Rattle.dcc_lane.specs.Ends.{senders_of}
use Rattle.dcc_receipts.specs.declared.receipt.Receipt.{Receipt}
use Rattle.dcc_store.specs.Books.{Held}
use Rattle.dcc_rounds.specs.Attending.{Attends}
use Rattle.dcc_rounds.specs.Timing as timing
use Rattle.dcc_rounds.specs.Visiting.{Serves}
use Rattle.dcc_rounds.specs.Working.{HasDone}
use Rattle.dcc_rounds.specs.declared.attendant.Attendant.{Attendant}
use Rattle.dcc_rounds.specs.declared.place.Place as place
use Rattle.dcc_rounds.specs.declared.tasks.Task.{Task}
use Rattle.dcc_rounds.specs.declared.tasks.Task.TheVariants.{Work, Time, Place, Attend}
use Rattle.dcc_rounds.specs.declared.timer.SweepTimer.{SweepTimer}
use Rattle.dcc_rounds.specs.declared.worker.Worker.{Worker}

-- `remaining` has the octets that are left of an input, and `contents` has the octets that were given to an output, if these are known. `tells` is
-- the relation of a clock's reading. `closed` says that no more connections are taken in for places. `attends` is the relation between the receipts
-- of an attendant's seat before and after. Each reader begins with a copy of `clock`. `opening` has the acts at the opening of the shards, of which there
-- are `count`.
module _ {I O C : Type 0} (remaining : I → Option (List ℕ)) (contents : O → Option (List ℕ)) (tells : C → ℕ → C → Type 0) (closed : Type 0)
    (attends : List Receipt → List Receipt → Type 0) (clock : C) (setting : Setting) (opening : Held) (count : ℕ) where
  -- the worker of a shard below `count` works, the timer asks for sweeps and audits, the gateways of a place are served, and an attendant serves operators
  abbrev pub Runs : Task I O → Task I O → Type 0
  Runs (Work worker) new =
      (done : Worker) × (new ≡ Work done) × (worker.shard < count → HasDone opening worker done (senders_of worker.from)) × (count ≤ worker.shard → done ≡ worker)
  Runs (Time timer) new = (timed : SweepTimer) × (new ≡ Time timed) × timing.Times tells closed clock timer timed
  Runs (Place old) new = (left : place.Place I O) × (new ≡ Place left) × Serves remaining contents tells closed clock setting count old left
  Runs (Attend attendant) new = (left : Attendant) × (new ≡ Attend left) × Attends attends closed attendant left

  -- each of these ran
  abbrev pub AllRun : List (Task I O) → List (Task I O) → Type 0
  AllRun old new = (i : ℕ) (none : Task I O) → i < length old → Runs (slice_index_or old i none) (slice_index_or new i none)
