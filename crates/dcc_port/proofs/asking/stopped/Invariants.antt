use Rattle.std.proofs.Common.{◌≡◌, length}
use Rattle.std.specs.List.{AllByRecursion}
use Rattle.dcc_running.specs.Calls.{IsToldStopped}
use Rattle.dcc_port.proofs.asking.stopped.Given as goal

abbrev pub invariant-loop-shard : goal.invariant-loop-shard
invariant-loop-shard g l = (length l.told.items ≡ l.shard) × AllByRecursion (IsToldStopped g.R.Records.is_stopped) l.told.items
