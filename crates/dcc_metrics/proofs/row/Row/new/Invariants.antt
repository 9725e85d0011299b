use Rattle.std.proofs.Common.{◌≡◌, vec_len}
use Rattle.dcc_metrics.proofs.row.Row.new.Given as goal

abbrev pub invariant-loop-made : goal.invariant-loop-made
invariant-loop-made l = vec_len l.cells ≡ l._made
