use Rattle.dcc_shard.specs.Openers.{IsFound}
use Rattle.dcc_shard.proofs.Finding.{opened_before}
use Rattle.dcc_shard.proofs.shards.Shards.find.Given as goal

abbrev pub invariant-loop-shard : goal.invariant-loop-shard
invariant-loop-shard g l = IsFound (opened_before l.self.shard l.self.parts l.shard-index l.host l.sid) l.found
