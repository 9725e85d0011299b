use Rattle.std.proofs.Common.{ℕ, ◌<◌, get_or}
use Rattle.dcc_shard.specs.Shards.{AreOwn}
use Rattle.dcc_shard.specs.Stored.{StoredView}
use Rattle.dcc_running.proofs.books.Books.acts_are_own.Given as goal

abbrev pub invariant-loop-shard : goal.invariant-loop-shard
invariant-loop-shard g l = (i : ℕ) (none : StoredView g.row.R.Denot) → i < l.shard-index → AreOwn (get_or l.shard-items i none).shard
