use Rattle.std.proofs.Common.{sym}
use Rattle.dcc_decode.proofs.LineLemmas.{end_some, end_none}
use Rattle.dcc_decode.proofs.line.end_of.Goals as goal

pub returns-in-Some-clause-value : goal.returns-in-Some-clause-value
returns-in-Some-clause-value c = end_some c.args.text.now c.in-Some.end (sym c.in-Some.ensures)

pub returns-in-None-clause-value : goal.returns-in-None-clause-value
returns-in-None-clause-value c = end_none c.args.text.now (sym c.in-None.ensures)
