use Rattle.std.proofs.Common.{length}
use Rattle.dcc_decode.proofs.lists.read_front.Given as goal

abbrev pub decreases-loop-avps : goal.decreases-loop-avps
decreases-loop-avps l = length l.left
