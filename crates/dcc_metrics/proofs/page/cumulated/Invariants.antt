use Rattle.std.proofs.Common.{◌≡◌, ◌++◌, length, drop}
use Rattle.dcc_metrics.specs.Times.{cumulated}
use Rattle.dcc_metrics.proofs.page.cumulated.Given as goal

abbrev pub invariant-loop-number : goal.invariant-loop-number
invariant-loop-number l = record {
  all : l.all.items ++ cumulated l.so_far (drop l.number-index l.numbers) ≡ cumulated 0 l.numbers;
  count : length l.all.items ≡ l.number-index;
}
