use Rattle.std.proofs.Common.{◌≡◌, length}
use Rattle.dcc_metrics.proofs.shard.column.Given as goal

abbrev pub invariant-loop-shard : goal.invariant-loop-shard
invariant-loop-shard l = length l.numbers.items ≡ l.shard-index
