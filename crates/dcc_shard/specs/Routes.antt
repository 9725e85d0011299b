-- The shard of a subscriber.
use Rattle.std.specs.Prelude.{◌≡◌, ◌≢◌, ℕ, ◌+◌, ◌%◌, Bool, List, length, slice_index_or, sum}
use Rattle.std.specs.declared.cmp.Ordering.{Ordering}
use Rattle.std.specs.Ordering.{nat_cmp, on, then_cmp}
use Rattle.dcc_act.specs.declared.act.Act.{Act}
use Rattle.dcc_act.specs.declared.sub.Sub.{Sub}
use Rattle.dcc_store.specs.Books.{sub_order}
use Rattle.dcc_shard.specs.Shards.{ShardView, IsStep}
use Rattle.dcc_shard.specs.Stored.{StoredView}

-- the index of a subscriber's shard, of so many: the sum of its type and of the octets of its data, modulo the number of shards
abbrev pub shard_of : Sub → ℕ → ℕ
shard_of sub count = (sub.kind + sum sub.name) % count

-- the order of the subscribers of so many shards: by shard, and then by type and data
abbrev pub route_order : ℕ → Sub → Sub → Ordering
route_order count = then_cmp (on (λ s. shard_of s count) nat_cmp) sub_order

-- shards as one, and each of them
pub record ShardsView (R : Type 0) : Type 0 where
  pub shard : ShardView
  pub parts : List (StoredView R)

-- the shard of several that keeps a subscriber
abbrev pub part_of : {R : Type 0} → List (StoredView R) → Sub → StoredView R → StoredView R
part_of parts sub none = slice_index_or parts (shard_of sub (length parts)) none

-- One act of one subscriber was judged in the shard that keeps it, or nothing changed there. Each other shard is as it was, and so are
-- its records.
pub record IsPartStep {R : Type 0} (old new : List (StoredView R)) (is_judged : Bool) (sub : Sub) (act : Act) : Type 0 where
  pub own : (none : StoredView R) → IsStep (slice_index_or old (shard_of sub (length old)) none).shard
      (slice_index_or new (shard_of sub (length old)) none).shard is_judged sub act
  pub others : (i : ℕ) (none : StoredView R) → i ≢ shard_of sub (length old) → slice_index_or new i none ≡ slice_index_or old i none
