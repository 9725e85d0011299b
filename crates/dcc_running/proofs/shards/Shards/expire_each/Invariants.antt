use Rattle.std.proofs.Common.{take}
use Rattle.dcc_running.specs.Batches.{CountsEach}
use Rattle.dcc_running.proofs.shards.Shards.expire_each.Given as goal

abbrev pub invariant-loop-sub : goal.invariant-loop-sub
invariant-loop-sub g l = CountsEach l.moment (take l.sub-index l.subs) l.fn.seat l.seat l.tally
