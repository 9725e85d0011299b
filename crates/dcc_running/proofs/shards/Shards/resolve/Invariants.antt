use Rattle.dcc_running.specs.Calls.{IsResolved}
use Rattle.dcc_running.proofs.shards.Shards.resolve.Given as goal

abbrev pub invariant-loop-shard : goal.invariant-loop-shard
invariant-loop-shard g l = IsResolved l.shard l.host l.sid l.found
