use Rattle.std.proofs.Common.{◌≡◌, ◌≢◌, ℕ, ◌<◌, [], length, get_or}
use Rattle.dcc_act.specs.declared.sub.Sub.{Sub}
use Rattle.dcc_shard.specs.Routes.{shard_of}
use Rattle.dcc_shard.specs.Shards.{held}
use Rattle.dcc_shard.specs.Stored.{StoredView}
use Rattle.dcc_callers.proofs.placed.are_shards.Given as goal

abbrev pub invariant-loop-i : goal.invariant-loop-i
invariant-loop-i g l = record {
  terms_are : (i : ℕ) (none : StoredView g.row.R.Denot) → i < l.i → (get_or l.shards i none).shard.terms ≡ l.terms;
  identity_is : (i : ℕ) (none : StoredView g.row.R.Denot) → i < l.i → (get_or l.shards i none).shard.identity ≡ l.identity;
  placed : (i : ℕ) (none : StoredView g.row.R.Denot) (sub : Sub) → i < l.i → held (get_or l.shards i none).shard sub ≢ []
      → shard_of sub (length l.shards) ≡ i;
}
