use Rattle.dcc_port.specs.Answers.{AreCopied}
use Rattle.dcc_port.proofs.backup.copy_all.Given as goal

abbrev pub invariant-loop-index : goal.invariant-loop-index
invariant-loop-index g l = AreCopied g.row.R.Denot g.S.Server.rules l.server l.folder l.index
