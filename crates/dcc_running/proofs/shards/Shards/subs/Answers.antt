use Rattle.dcc_running.proofs.Subscribers.{subs_of}
use Rattle.dcc_running.proofs.shards.Shards.subs.Goals as goal

pub returns-clause-held : goal.returns-clause-held
returns-clause-held g c = subs_of c.subs.result c.shard.result.now.shard c.subs.ensures.some c.subs.ensures.none
