use Rattle.std.proofs.Common.{◌≡◌, length}
use Rattle.dcc_metrics.proofs.row.Row.read.Given as goal

abbrev pub invariant-loop-i : goal.invariant-loop-i
invariant-loop-i l = length l.numbers.items ≡ l.i
