use Rattle.std.proofs.Common.{◌≡◌, length}
use Rattle.dcc_metrics.proofs.meters.Meters.new.Given as goal

abbrev pub invariant-loop-made : goal.invariant-loop-made
invariant-loop-made l = length l.meters.items ≡ l._made
