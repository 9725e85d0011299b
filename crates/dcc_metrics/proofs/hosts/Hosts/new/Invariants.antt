use Rattle.std.proofs.Common.{◌≡◌, length}
use Rattle.dcc_metrics.proofs.hosts.Hosts.new.Given as goal

abbrev pub invariant-loop-made : goal.invariant-loop-made
invariant-loop-made l = length l.names.items ≡ l._made
