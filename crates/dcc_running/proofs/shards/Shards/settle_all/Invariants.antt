use Rattle.std.proofs.Common.{vec_len}
use Rattle.dcc_running.proofs.shards.Shards.settle_all.Given as goal

abbrev pub decreases-loop-sub : goal.decreases-loop-sub
decreases-loop-sub g l = vec_len l.touched
