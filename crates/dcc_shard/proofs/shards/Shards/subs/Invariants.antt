use Rattle.dcc_shard.specs.Shards.{held}
use Rattle.dcc_shard.proofs.RoutedSubs.{AreUpTo}
use Rattle.dcc_shard.proofs.shards.Shards.subs.Given as goal

abbrev pub invariant-loop-i : goal.invariant-loop-i
invariant-loop-i g l = AreUpTo l.count l.i (held l.self.shard) l.all.items
