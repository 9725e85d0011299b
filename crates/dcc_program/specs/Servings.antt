-- `dcc serve`: its output, and the failures with which it ends.
use Rattle.std.specs.Prelude.{⊤, ◌≡◌, ◌<◌, ◌⊎◌, ℕ, Bool, List, ◌++◌, codes, length, slice_index_or, take, Option, None}
use Rattle.std.specs.Io.KnownBytes.{Appends, Keeps}
use Rattle.std.specs.Net.Text.{socket_text}
use Rattle.std.specs.declared.net.SocketAddr.{SocketAddr}
use Rattle.dcc_store.specs.Contents.{Content}
use Rattle.dcc_tariff.specs.Plans.{PlanView}
use Rattle.dcc_shard.specs.Stored.{StoredView}
use Rattle.dcc_startup.specs.Openings.{IsOpenedOver}
use Rattle.dcc_receipts.specs.declared.receipt.Receipt.{Receipt}
use Rattle.dcc_replay.specs.Names.{identity_of}
use Rattle.dcc_rounds.specs.Lines.{AreTold, EndsWith}
use Rattle.dcc_rounds.specs.Rounds.{RoundsView}
use Rattle.dcc_rounds.specs.Served.{AreServed, EndsServing, IsGoodRound}
use Rattle.dcc_rounds.specs.declared.fault.ServeFault.{ServeFault}
use Rattle.dcc_program.specs.declared.failure.Failure.{Failure}
use Rattle.dcc_program.specs.declared.failure.Failure.TheVariants.{Usage, Memory, Io, Plan, Store, Script, Close}
use Rattle.dcc_program.specs.Failures.{of_serve}
use Rattle.dcc_program.specs.Plans.{IsPlanFailure}

abbrev pub listening_line : SocketAddr → List ℕ
listening_line address = codes "listening " ++ socket_text address ++ codes "\n"

-- a writer, before and after, has grown by the line with the server's address, and then by the lines of this many rounds
abbrev pub IsServed : ℕ → (old new : Option (List ℕ)) → Type 0
IsServed rounds old new = (address : SocketAddr) × (told : Option (List ℕ)) × Appends old told (listening_line address) × AreTold rounds told new

-- the shards are over the stores of a folder, as many as the plan has, each as the opening returns it
abbrev pub AreOverStores : {R : Type 0} → (opens : ℕ → R → Type 0) → (may_leave : R → Content → Type 0) → PlanView → List (StoredView R) → Type 0
AreOverStores {R} opens may_leave plan shards =
    (length shards ≡ plan.shards) × ((i : ℕ) (none : StoredView R) → i < length shards → IsOpenedOver (opens i) may_leave (slice_index_or shards i none))

module _ {I O C : Type 0} (remaining : I → Option (List ℕ)) (contents : O → Option (List ℕ)) (tells : C → ℕ → C → Type 0) (closed : Type 0)
    (attends : List Receipt → List Receipt → Type 0) where
  -- a writer has grown by the line with the server's address, and then by the lines of rounds over the stores of a folder under a plan. Each
  -- round is over the shards that the round before it left.
  pub record IsServedOver {R : Type 0} (opens : PlanView → ℕ → R → Type 0) (is_stopped : R → Bool) (may_leave : R → Content → Type 0) (rounds : RoundsView)
      (old new : Option (List ℕ)) : Type 0 where
    pub plan : PlanView
    pub clock : C
    pub shards : List (StoredView R)
    pub last : List (StoredView R)
    pub address : SocketAddr
    pub told : Option (List ℕ)
    pub opened : AreOverStores (opens plan) may_leave plan shards
    pub listening : Appends old told (listening_line address)
    pub served : AreServed (IsGoodRound remaining contents tells closed attends clock (record { plan = plan; identity = identity_of plan }) is_stopped may_leave rounds)
        rounds.rounds shards last told new

-- the failures before the server waits for a gateway: the plan's, or under a good plan a store's or the address's
abbrev pub IsBeforeServing : Failure → Type 0
IsBeforeServing Usage = ⊥
IsBeforeServing Memory = ⊤
IsBeforeServing Io = ⊤
IsBeforeServing (Plan number) = IsPlanFailure None (Plan number)
IsBeforeServing (Store number) = ⊤
IsBeforeServing (Script line) = ⊥
IsBeforeServing (Close number) = ⊥

-- the growth of a writer if a server fails before it waits for a gateway: nothing, or, if the output failed, the first octets of the line
-- with the server's address
abbrev pub IsTellingBegun : (old new : Option (List ℕ)) → Failure → Type 0
IsTellingBegun old new failure = (IsBeforeServing failure × Keeps old new)
    ⊎ ((address : SocketAddr) × (n : ℕ) × (failure ≡ Io) × Appends old new (take n (listening_line address)))

module _ {I O C : Type 0} (remaining : I → Option (List ℕ)) (contents : O → Option (List ℕ)) (tells : C → ℕ → C → Type 0) (closed : Type 0)
    (attends : List Receipt → List Receipt → Type 0) where
  -- the line with the server's address is written, and then the text that a fault of its rounds leaves, with the cause of this fault
  pub record IsServingEnded {R : Type 0} (opens : PlanView → ℕ → R → Type 0) (is_stopped : R → Bool) (may_leave : R → Content → Type 0) (rounds : RoundsView)
      (old new : Option (List ℕ)) (failure : Failure) : Type 0 where
    pub plan : PlanView
    pub clock : C
    pub shards : List (StoredView R)
    pub address : SocketAddr
    pub told : Option (List ℕ)
    pub fault : ServeFault
    pub opened : AreOverStores (opens plan) may_leave plan shards
    pub listening : Appends old told (listening_line address)
    pub failed : failure ≡ of_serve fault
    pub lines : EndsWith fault rounds.rounds told new
    pub cause : EndsServing remaining contents tells closed attends clock (record { plan = plan; identity = identity_of plan }) is_stopped may_leave rounds fault shards told new

  -- the growth of a writer if a server ends with a failure
  abbrev pub IsServedBegun : {R : Type 0} → (opens : PlanView → ℕ → R → Type 0) (is_stopped : R → Bool) (may_leave : R → Content → Type 0) → RoundsView
      → (old new : Option (List ℕ)) → Failure → Type 0
  IsServedBegun opens is_stopped may_leave rounds old new failure =
      IsTellingBegun old new failure ⊎ IsServingEnded opens is_stopped may_leave rounds old new failure
