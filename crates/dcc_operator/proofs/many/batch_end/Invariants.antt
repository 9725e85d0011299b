use Rattle.std.proofs.Common.{◌<◌, ◌≤◌, ◌-◌, length}
use Rattle.dcc_operator.proofs.many.batch_end.Given as goal

abbrev pub invariant-loop-end : goal.invariant-loop-end
invariant-loop-end l = record { some : l.fn.from < l.end; within : l.end ≤ length l.fn.asks }

abbrev pub decreases-loop-end : goal.decreases-loop-end
decreases-loop-end l = length l.asks - l.end
