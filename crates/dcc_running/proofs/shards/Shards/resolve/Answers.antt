use Rattle.dcc_running.proofs.Resolved.{one_more_resolved}
use Rattle.dcc_running.proofs.shards.Shards.resolve.Goals as goal

pub loop-shard-preserved : goal.loop-shard-preserved
loop-shard-preserved g c =
    rw (c.join-found.ensures) (one_more_resolved c.loop-shard.shard c.args.host.now c.args.sid.now c.loop-shard.found c.find.result c.loop-shard.invariant (c.shard.result.now.shard, c.find.ensures))
