use Rattle.std.proofs.Common.{◌≡◌, ◌+◌, ◌++◌, length}
use Rattle.dcc_rounds.specs.Gathering.{workers_from}
use Rattle.dcc_rounds.proofs.round.add_workers.Given as goal

abbrev pub invariant-loop-shard : goal.invariant-loop-shard
invariant-loop-shard g l = record {
  tasks : l.tasks.items ++ workers_from l.shard l.receivers.items l.senders.items ≡ l.fn.tasks.items ++ workers_from 0 l.fn.receivers.items l.fn.senders.items;
  left : l.shard + length l.receivers.items ≡ l.count;
}
