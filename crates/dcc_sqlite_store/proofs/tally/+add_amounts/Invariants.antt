use Rattle.std.proofs.Common.{length}
use Rattle.dcc_sqlite_store.proofs.tally.+add_amounts.Given as goal

abbrev pub decreases-add_amounts : goal.decreases-add_amounts
decreases-add_amounts l = length l.entries.now
