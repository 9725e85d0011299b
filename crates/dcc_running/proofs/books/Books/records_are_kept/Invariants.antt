use Rattle.std.proofs.Common.{ℕ, ◌<◌, get_or}
use Rattle.dcc_shard.specs.Stored.{StoredView}
use Rattle.dcc_running.specs.Books.{IsKeptBy}
use Rattle.dcc_running.proofs.books.Books.records_are_kept.Given as goal

abbrev pub invariant-loop-shard : goal.invariant-loop-shard
invariant-loop-shard g l = (i : ℕ) (none : StoredView g.row.R.Denot) → i < l.shard-index
    → IsKeptBy g.R.Records.is_stopped g.R.Records.may_leave (get_or l.shard-items i none)
