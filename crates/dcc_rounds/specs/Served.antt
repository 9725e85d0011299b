-- Rounds, and the server that serves them.
use Rattle.std.specs.Prelude.{◌≡◌, ◌⊎◌, ℕ, ◌+◌, ◌<◌, Bool, true, false, List, length, Option, Some}
use Rattle.std.specs.Io.KnownBytes.{Appends}
use Rattle.std.specs.List.{FoldsTo, filter_map, list_any}
use Rattle.dcc_dispatch.specs.Settings.{Setting}
use Rattle.dcc_store.specs.Contents.{Content}
use Rattle.dcc_receipts.specs.Faults.{fault_number}
use Rattle.dcc_receipts.specs.declared.fault.CloseFault.{CloseFault}
use Rattle.dcc_receipts.specs.declared.receipt.Receipt.{Receipt}
use Rattle.dcc_running.specs.Audited.{AreCovered, AreOrdered, AreOwn, AreTrue, IsFault}
use Rattle.dcc_running.specs.Books.{AreKept, AreLeft, BooksView, acts_told, book}
use Rattle.dcc_rounds.specs.Counting.{counts_in, seat_in, with_acts}
use Rattle.dcc_rounds.specs.Finishing.{AreFinished}
use Rattle.dcc_rounds.specs.Gathering.{AreGathered}
use Rattle.dcc_rounds.specs.Lines.{round_line, round_lines}
use Rattle.dcc_rounds.specs.Rounds.{RoundsView}
use Rattle.dcc_rounds.specs.Tasks.{AllRun}
use Rattle.dcc_rounds.specs.declared.fault.ServeFault.{ServeFault}
use Rattle.dcc_rounds.specs.declared.fault.ServeFault.TheVariants.{Memory, Io, Close, Store}
use Rattle.dcc_rounds.specs.declared.line.Counts.{Counts}
use Rattle.dcc_rounds.specs.declared.tasks.Task.{Task}
use Rattle.dcc_shard.specs.Stored.{StoredView}

-- so many rounds, each over the shards that the one before it left, and a writer that has grown by the lines of their counts
abbrev pub AreServed : {S : Type 0} → (S → Counts → S → Type 0) → ℕ → (first last : S) → (before after : Option (List ℕ)) → Type 0
AreServed round rounds first last before after =
    (ended : List Counts) × (length ended ≡ rounds) × FoldsTo round first ended last × Appends before after (round_lines 1 ended)

-- The reason for which a server of so many rounds ends before these are over. Behind good rounds came a round that ended by this fault and has no
-- line; or, with fault 51, a round that has its line and after which records have failed. Nothing is said if memory was short, or if the output or
-- the listener failed.
abbrev pub EndsRounds : {S : Type 0} → (good round : S → Counts → S → Type 0) → (ends : S → ServeFault → Type 0) → (stopped : S → Bool) → (fault : ServeFault) → ℕ
    → (first : S) → (before after : Option (List ℕ)) → Type 0
EndsRounds good round ends stopped Memory rounds first before after = Unit {0}
EndsRounds good round ends stopped Io rounds first before after = Unit {0}
EndsRounds {S} good round ends stopped (Close number) rounds first before after =
    (ended : ℕ) × (ended < rounds) × (last : S) × AreServed good ended first last before after × ends last (Close number)
EndsRounds {S} good round ends stopped (Store number) rounds first before after =
    (number ≡ 51) × ((ended : ℕ) × (ended < rounds) × (last : S) × (next : S) × (one : Counts) × (told : Option (List ℕ))
    × AreServed good ended first last before told × round last one next × (stopped next ≡ true) × Appends told after (round_line (ended + 1) one))

-- whether the records of a shard have failed
abbrev pub is_any_stopped : {R : Type 0} → (R → Bool) → List (StoredView R) → Bool
is_any_stopped {R} is_stopped shards = list_any (λ (part : StoredView R). is_stopped part.records) shards

module _ {I O C : Type 0} (remaining : I → Option (List ℕ)) (contents : O → Option (List ℕ)) (tells : C → ℕ → C → Type 0) (closed : Type 0)
    (attends : List Receipt → List Receipt → Type 0) (clock : C) (setting : Setting) where
  -- A round. Its threads were gathered and ran, its lanes were ended with all their senders, and its counts are sums over its threads. The books of
  -- its shards begin with the acts that the shards held when the round began. They are exactly the acts that their own lists make, and agree with
  -- the receipts of all workers and attendants of the round. Each content that a stop leaves of a shard has them.
  pub record IsRound {R : Type 0} (is_stopped : R → Bool) (may_leave : R → Content → Type 0) (rounds : RoundsView) (old : List (StoredView R)) (counts : Counts) (new : List (StoredView R)) : Type 0 where
    pub begun : List (Task I O)
    pub ended : List (Task I O)
    pub books : BooksView R
    pub gathered : AreGathered (length old) rounds begun
    pub ran : AllRun remaining contents tells closed attends clock setting (book old) (length old) begun ended
    pub all : length ended ≡ length begun
    pub finished : AreFinished ended
    pub counted : counts ≡ with_acts (counts_in ended) (acts_told books.sides)
    pub audited : AreTrue (book old) books (filter_map seat_in ended) × AreCovered (book old) books (filter_map seat_in ended) × AreOrdered books.sides (filter_map seat_in ended)
    pub own : AreOwn books
    pub left : new ≡ books.parts
    pub kept : AreKept is_stopped may_leave new
    pub held : AreLeft may_leave new

  -- a round after which no records have failed
  abbrev pub IsGoodRound : {R : Type 0} → (is_stopped : R → Bool) (may_leave : R → Content → Type 0) (rounds : RoundsView) → List (StoredView R) → Counts → List (StoredView R) → Type 0
  IsGoodRound is_stopped may_leave rounds old counts new =
      IsRound is_stopped may_leave rounds old counts new × (is_any_stopped is_stopped new ≡ false)

  -- Threads were gathered over these shards and ran, their lanes were ended, and the first failing test of the comparison has this number.
  pub record Disagrees {R : Type 0} (rounds : RoundsView) (old : List (StoredView R)) (number : ℕ) : Type 0 where
    pub begun : List (Task I O)
    pub ended : List (Task I O)
    pub books : BooksView R
    pub fault : CloseFault
    pub gathered : AreGathered (length old) rounds begun
    pub ran : AllRun remaining contents tells closed attends clock setting (book old) (length old) begun ended
    pub all : length ended ≡ length begun
    pub finished : AreFinished ended
    pub fails : IsFault fault (book old) books (filter_map seat_in ended)
    pub numbered : fault_number fault ≡ Some number

  -- The reason for which a round has no counts: receipts and books disagree; or, with fault 80, the sender of a lane is missing. Nothing is said if
  -- memory was short or a listener failed.
  abbrev pub EndsRound : {R : Type 0} → (rounds : RoundsView) → List (StoredView R) → ServeFault → Type 0
  EndsRound rounds old Memory = Unit {0}
  EndsRound rounds old Io = Unit {0}
  EndsRound rounds old (Close number) = Disagrees rounds old number ⊎ (number ≡ 80)
  EndsRound rounds old (Store number) = ⊥

  -- the reason for which a server ends before its rounds are over; each round is over the shards that the round before it left
  abbrev pub EndsServing : {R : Type 0} → (is_stopped : R → Bool) (may_leave : R → Content → Type 0) → RoundsView → (fault : ServeFault) → List (StoredView R)
      → (before after : Option (List ℕ)) → Type 0
  EndsServing is_stopped may_leave rounds fault first before after =
      EndsRounds (IsGoodRound is_stopped may_leave rounds) (IsRound is_stopped may_leave rounds)
      (EndsRound rounds) (is_any_stopped is_stopped) fault rounds.rounds first before after
