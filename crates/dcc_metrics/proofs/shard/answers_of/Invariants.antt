use Rattle.std.proofs.Common.{◌≡◌, length}
use Rattle.dcc_metrics.proofs.shard.answers_of.Given as goal

abbrev pub invariant-loop-code : goal.invariant-loop-code
invariant-loop-code l = length l.numbers.items ≡ l.code
