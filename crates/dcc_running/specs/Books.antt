-- Shards that work under locks, and their acts once they are out of the locks.
use Rattle.std.specs.Prelude.{◌≡◌, ◌≢◌, ℕ, ◌<◌, ◌-◌, ◌^◌, min, Bool, true, false, List, [], ◌++◌, length, map, sum_by, slice_index_or, Option, Some, None, slice_get}
use Rattle.dcc_tariff.specs.Terms.{TermsView}
use Rattle.dcc_message.specs.declared.identity.Identity.{Identity}
use Rattle.dcc_act.specs.declared.act.Act.{Act}
use Rattle.dcc_act.specs.declared.sub.Sub.{Sub}
use Rattle.dcc_store.specs.Books.{Held}
use Rattle.dcc_store.specs.Contents.{Content}
use Rattle.dcc_store.specs.Stops.{LeavesOnly}
use Rattle.dcc_receipts.specs.declared.receipt.Receipt.{Receipt}
use Rattle.dcc_running.specs.Acts.{acts_of}
use Rattle.dcc_running.specs.declared.lock.Side.{Side}
use Rattle.dcc_shard.specs.Routes.{shard_of}
use Rattle.dcc_shard.specs.Shards.{held}
use Rattle.dcc_shard.specs.Stored.{StoredView, GoesOnFrom, LeavesHeld, LeavesBatch}

-- shards under locks: the terms by which they judge, the identity of the server, and the number of shards; of a shard under its lock nothing else
-- is known but that its acts begin with the acts at opening
pub record LockedView : Type 0 where
  pub terms : TermsView
  pub identity : Identity
  pub count : ℕ

-- the same shards out of their locks; beside each one the place of its lock, and its receipts that were audited
pub record BooksView (R : Type 0) : Type 0 where
  pub terms : TermsView
  pub identity : Identity
  pub parts : List (StoredView R)
  pub sides : List Side

-- the place of each of these is that of its index, among as many as there are
abbrev pub HaveOwnPlaces : List Side → Type 0
HaveOwnPlaces sides = (i : ℕ) (none : Side) → i < length sides → (slice_index_or sides i none).place ≡ record { index = i; count = length sides }

-- the receipts of each shard that were audited
abbrev pub told_in : List Side → List (List Receipt)
told_in sides = map (λ (s : Side). s.told.receipts) sides

-- the number of acts of the audited receipts, up to 2^64 - 1
abbrev pub acts_told : List Side → ℕ
acts_told sides = min (sum_by (λ (s : Side). acts_of s.told.receipts) sides) (2 ^ 64 - 1)

-- these acts begin with the acts at opening
abbrev pub BeginWith : (opening all : List Act) → Type 0
BeginWith opening all = (later : List Act) × (all ≡ opening ++ later)

abbrev pub held_by : {R : Type 0} → Option (StoredView R) → Held
held_by None sub = []
held_by (Some part) sub = held part.shard sub

-- the acts of a subscriber: those that the subscriber's own shard holds
abbrev pub book : {R : Type 0} → List (StoredView R) → Held
book parts sub = held_by (slice_get parts (shard_of sub (length parts))) sub

-- shards that may work as one: they judge by these terms and answer for this server, and each holds acts of its own subscribers alone
pub record AreShards {R : Type 0} (terms : TermsView) (identity : Identity) (parts : List (StoredView R)) : Type 0 where
  pub terms_are : (i : ℕ) (none : StoredView R) → i < length parts → (slice_index_or parts i none).shard.terms ≡ terms
  pub identity_is : (i : ℕ) (none : StoredView R) → i < length parts → (slice_index_or parts i none).shard.identity ≡ identity
  pub placed : (i : ℕ) (none : StoredView R) (sub : Sub) → i < length parts
      → held (slice_index_or parts i none).shard sub ≢ [] → shard_of sub (length parts) ≡ i

-- The contents that a stop leaves of a shard. If its records are not stopped, a stop leaves exactly the held acts. If they are stopped, it
-- leaves these, or these and all acts of the batch on which the records failed. So each subscriber keeps all its acts, with at most one act more.
pub record IsKeptBy {R : Type 0} (is_stopped : R → Bool) (may_leave : R → Content → Type 0) (part : StoredView R) : Type 0 where
  pub going : is_stopped part.records ≡ false → LeavesOnly part.shard.terms (held part.shard) (may_leave part.records)
  pub stopped : is_stopped part.records ≡ true → LeavesBatch part.shard.terms (held part.shard) (may_leave part.records)
  pub left : LeavesHeld (held part.shard) (may_leave part.records)

-- a stop leaves such contents of each of these shards
abbrev pub AreKept : {R : Type 0} → (R → Bool) → (R → Content → Type 0) → List (StoredView R) → Type 0
AreKept {R} is_stopped may_leave parts = (i : ℕ) (none : StoredView R) → i < length parts → IsKeptBy is_stopped may_leave (slice_index_or parts i none)

-- Each content that a stop leaves of a subscriber's shard begins with the subscriber's acts: the act of each fresh receipt is among them, and
-- each receipt's place. At most one act more follows.
abbrev pub AreLeft : {R : Type 0} → (R → Content → Type 0) → List (StoredView R) → Type 0
AreLeft {R} may_leave parts = (sub : Sub) (none : StoredView R) (found : Content)
    → may_leave (slice_index_or parts (shard_of sub (length parts)) none).records found
    → GoesOnFrom (book parts sub) (found sub).acts
