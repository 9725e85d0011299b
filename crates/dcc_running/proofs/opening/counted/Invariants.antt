use Rattle.std.proofs.Common.{◌≡◌, length}
use Rattle.std.specs.Prelude.{if◌then◌else◌, nat_lt}
use Rattle.dcc_act.specs.declared.sub.Sub.{Sub}
use Rattle.dcc_shard.specs.Routes.{shard_of}
use Rattle.dcc_running.specs.Books.{book}
use Rattle.dcc_running.specs.inner.Numbers.{number_of}
use Rattle.dcc_running.proofs.opening.counted.Given as goal

abbrev pub invariant-loop-i : goal.invariant-loop-i
invariant-loop-i g l = (sub : Sub) → number_of l.numbers.entries sub
    ≡ (if nat_lt (shard_of sub (length l.shards)) l.i then length (book l.shards sub) else 0)
