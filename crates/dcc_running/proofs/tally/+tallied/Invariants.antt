use Rattle.std.proofs.Common.{length}
use Rattle.dcc_running.proofs.tally.+tallied.Given as goal

abbrev pub decreases-tallied : goal.decreases-tallied
decreases-tallied l = length l.replies.now
