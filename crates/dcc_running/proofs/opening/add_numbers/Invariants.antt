use Rattle.std.proofs.Common.{◌≡◌, length, take}
use Rattle.dcc_act.specs.declared.sub.Sub.{Sub}
use Rattle.dcc_shard.specs.Shards.{held, is_among}
use Rattle.std.specs.Prelude.{if◌then◌else◌}
use Rattle.dcc_running.specs.inner.Numbers.{number_of}
use Rattle.dcc_running.proofs.opening.add_numbers.Given as goal

abbrev pub invariant-loop-sub : goal.invariant-loop-sub
invariant-loop-sub g l = (sub : Sub) → number_of l.numbers.entries sub
    ≡ (if is_among sub (take l.sub-index l.sub-items) then length (held l.shard.shard sub) else number_of l.fn.numbers.entries sub)
