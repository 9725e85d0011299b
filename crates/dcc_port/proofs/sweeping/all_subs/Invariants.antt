use Rattle.dcc_port.specs.Answers.{AreAllSubs}
use Rattle.dcc_port.proofs.sweeping.all_subs.Given as goal

abbrev pub invariant-loop-shard : goal.invariant-loop-shard
invariant-loop-shard g l = AreAllSubs l.shard l.all.items
