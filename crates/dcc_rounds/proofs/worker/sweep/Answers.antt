use Rattle.std.proofs.Common.{arith}
use Rattle.dcc_rounds.proofs.worker.sweep.Goals as goal

pub list-requires-clause-none_left : goal.list-requires-clause-none_left
list-requires-clause-none_left g c = omega (arith, c.ask_next.ensures.fewer, c.count-left.ensures, c.requires.counted)
