use Rattle.std.proofs.Common.{◌≡◌, take}
use Rattle.dcc_rounds.specs.Counting.{counts_in}
use Rattle.dcc_rounds.proofs.round.counted.Given as goal

abbrev pub invariant-loop-task : goal.invariant-loop-task
invariant-loop-task g l = l.counts ≡ counts_in (take l.task-index l.tasks)
