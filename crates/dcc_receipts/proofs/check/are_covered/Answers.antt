use Rattle.std.proofs.Common.{rules, arith}
use Rattle.std.proofs.lemmas.Grind.{common_steps}
use Rattle.dcc_receipts.proofs.check.are_covered.Goals as goal

pub loop-before-preserved : goal.loop-before-preserved
loop-before-preserved c = λ place pos upto. grind (arith, common_steps, c.loop-before.invariant place)
