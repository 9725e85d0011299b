use Rattle.std.proofs.Common.{refl}
use Rattle.dcc_port.proofs.Results.{on_ok}
use Rattle.dcc_port.specs.Sheets.{flaw_sheet}
use Rattle.dcc_port.proofs.operator.Operator.answer.Goals as goal

pub returns-in-Flawed-clause-answer : goal.returns-in-Flawed-clause-answer
returns-in-Flawed-clause-answer g c = on_ok c.put_flaw.result (λ is. (flaw_sheet c.in-Flawed.flaw, is, rw c.in-Flawed.is (refl, refl))) c.put_flaw.ensures
