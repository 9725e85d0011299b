use Rattle.std.proofs.Common.{◌≡◌, ◌++◌, ◌==◌, filter, take}
use Rattle.dcc_shard.specs.Routes.{shard_of}
use Rattle.dcc_shard.proofs.shards.add_own.Given as goal

abbrev pub invariant-loop-sub : goal.invariant-loop-sub
invariant-loop-sub l = l.all.items ≡ l.initial.all.items ++ filter (λ s. shard_of s l.count == l.i) (take l.sub-index l.subs)
