use Rattle.dcc_rounds.specs.Finishing.{ArePartsOf}
use Rattle.dcc_rounds.proofs.finishing.parted.Given as goal

abbrev pub invariant-loop-task : goal.invariant-loop-task
invariant-loop-task g l = ArePartsOf l.yielded l.parts
