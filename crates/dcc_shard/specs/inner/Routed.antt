-- The accounts of several shards as the accounts of one shard.
use Rattle.std.specs.Prelude.{◌≡◌, ◌≢◌, ℕ, ◌+◌, ◌<◌, ◌≤◌, ◌==◌, List, [], ◌∷◌, ◌++◌, filter, length, slice_index_or}
use Rattle.dcc_tariff.specs.Terms.{TermsView}
use Rattle.dcc_message.specs.declared.identity.Identity.{Identity}
use Rattle.dcc_act.specs.declared.sub.Sub.{Sub}
use Rattle.dcc_account.specs.declared.account.Account.{Account}
use Rattle.dcc_shard.specs.Shards.{ShardView, AreOwn, held}
use Rattle.dcc_shard.specs.Stored.{StoredView}
use Rattle.dcc_shard.specs.Routes.{shard_of}

-- the accounts of the shards from an index on, of so many shards: those accounts of each shard that belong to it
abbrev pub rows_from : {R : Type 0} → ℕ → ℕ → List (StoredView R) → List (Sub × Account)
rows_from count i [] = []
rows_from count i (one ∷ more) = filter (λ row. shard_of row.0 count == i) one.shard.rows ++ rows_from count (i + 1) more

-- shards as one
abbrev pub as_one : {R : Type 0} → TermsView → Identity → List (StoredView R) → ShardView
as_one terms identity shards = record { terms = terms; identity = identity; rows = rows_from (length shards) 0 shards }

-- There are 1 to 8 shards. Each is under the terms and answers as this server. The held acts of each subscriber are exactly those that
-- their own list makes. Each shard holds acts of its own subscribers alone.
pub record AreShards {R : Type 0} (terms : TermsView) (identity : Identity) (shards : List (StoredView R)) : Type 0 where
  pub some : 1 ≤ length shards
  pub most : length shards ≤ 8
  pub terms_are : (i : ℕ) (none : StoredView R) → i < length shards → (slice_index_or shards i none).shard.terms ≡ terms
  pub identity_is : (i : ℕ) (none : StoredView R) → i < length shards → (slice_index_or shards i none).shard.identity ≡ identity
  pub own : AreOwn (as_one terms identity shards)
  pub placed : (i : ℕ) (none : StoredView R) (sub : Sub) → i < length shards → held (slice_index_or shards i none).shard sub ≢ [] → shard_of sub (length shards) ≡ i
