-- A shard over the records of an opened store, and the faults for which there is none.
use Rattle.std.specs.Prelude.{◌≡◌, ◌≢◌, ◌⊎◌, ℕ, ◌<◌, ◌≤◌, Bool, true, false, List, [], length, slice_index_or}
use Rattle.dcc_tariff.specs.Terms.{TermsView}
use Rattle.dcc_message.specs.declared.identity.Identity.{Identity}
use Rattle.dcc_act.specs.declared.sub.Sub.{Sub}
use Rattle.dcc_store.specs.Contents.{Content}
use Rattle.dcc_store.specs.Stops.{LeavesOnly}
use Rattle.dcc_shard.specs.Routes.{shard_of}
use Rattle.dcc_shard.specs.Shards.{held, AreOwn}
use Rattle.dcc_shard.specs.Stored.{StoredView}

-- the shard is over records that the opening returned: its held acts are those that a stop leaves, and that a stop left before
pub record IsOpenedOver {R : Type 0} (opens : R → Type 0) (may_leave : R → Content → Type 0) (stored : StoredView R) : Type 0 where
  pub given : R
  pub opened : opens given
  pub same : (found : Content) → may_leave stored.records found → may_leave given found
  pub left : LeavesOnly stored.shard.terms (held stored.shard) (may_leave stored.records)

-- A shard of an index, of so many, over the store that was opened for this index: under these terms, for this server, with acts of its own
-- subscribers alone, each of whose lists makes exactly its own acts. The held acts are those that a stop leaves.
pub record IsStarted {R : Type 0} (opens : ℕ → R → Type 0) (may_leave : R → Content → Type 0) (terms : TermsView) (identity : Identity) (count index : ℕ)
    (one : StoredView R) : Type 0 where
  pub terms_are : one.shard.terms ≡ terms
  pub identity_is : one.shard.identity ≡ identity
  pub placed : (sub : Sub) → held one.shard sub ≢ [] → shard_of sub count ≡ index
  pub own : AreOwn one.shard
  pub found : LeavesOnly one.shard.terms (held one.shard) (may_leave one.records)
  pub opened : IsOpenedOver (opens index) may_leave one

-- So many shards, 1 to 8, each over the store of its index. So they may work as one.
pub record AreStarted {R : Type 0} (opens : ℕ → R → Type 0) (may_leave : R → Content → Type 0) (terms : TermsView) (identity : Identity) (count : ℕ)
    (shards : List (StoredView R)) : Type 0 where
  pub count_is : length shards ≡ count
  pub some : 1 ≤ length shards
  pub most : length shards ≤ 8
  pub each : (i : ℕ) (none : StoredView R) → i < length shards → IsStarted opens may_leave terms identity count i (slice_index_or shards i none)

-- the records have acts of a subscriber whose shard, of so many, is not the shard of this index
abbrev pub HasOthers : {R : Type 0} → (R → Content → Type 0) → R → ℕ → ℕ → Type 0
HasOthers {R} may_leave records index count =
    (stored : StoredView R) × IsOpenedOver (λ given. given ≡ records) may_leave stored × (¬ ((sub : Sub) → held stored.shard sub ≢ [] → shard_of sub count ≡ index))

-- The number of the fault of records over which no shard is made, with its cause: 50, want of memory, and 51, a failure, each of records that
-- weren't stopped; 52, stopped records; 54, acts of another shard's subscriber.
abbrev pub IsFaultOver : {R : Type 0} → (R → Content → Type 0) → (R → Bool) → R → ℕ → ℕ → ℕ → Type 0
IsFaultOver may_leave is_stopped records index count number =
    ((number ≡ 50) × (is_stopped records ≡ false)) ⊎ (((number ≡ 51) × (is_stopped records ≡ false)) ⊎ (((number ≡ 52) × (is_stopped records ≡ true)) ⊎ ((number ≡ 54) × HasOthers may_leave records index count)))

-- a store can't be used, by the number of its fault: the opening refused it by this fault, or no shard is made over the records of the opening
abbrev pub IsUnusable : {R : Type 0} → (ℕ → Type 0) → (R → Type 0) → (R → Content → Type 0) → (R → Bool) → ℕ → ℕ → ℕ → Type 0
IsUnusable {R} refuses opens may_leave is_stopped index count number =
    refuses number ⊎ ((given : R) × opens given × IsFaultOver may_leave is_stopped given index count number)
