use Rattle.std.proofs.Common.{length}
use Rattle.dcc_running.proofs.apart.+are_kept_at.Given as goal

abbrev pub decreases-are_kept_at : goal.decreases-are_kept_at
decreases-are_kept_at l = length l.subs.now
