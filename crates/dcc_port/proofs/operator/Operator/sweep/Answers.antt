use Rattle.std.proofs.Common.{refl, inr}
use Rattle.dcc_port.proofs.Results.{on_ok, on_err}
use Rattle.dcc_port.specs.Sheets.{sweep_sheet}
use Rattle.dcc_port.proofs.operator.Operator.sweep.Goals as goal

pub returns-clause-answer : goal.returns-clause-answer
returns-clause-answer g c =
    let swept = c.in_ok-swept.swept in
    on_ok c.put_sweep.result (λ is. (sweep_sheet swept, is, (swept, c.in_ok-swept.ensures.swept, refl, refl))) c.put_sweep.ensures

pub returns-clause-unsaid : goal.returns-clause-unsaid
returns-clause-unsaid g c =
    let swept = c.in_ok-swept.swept in
    on_err c.put_sweep.result (inr (refl, (sweep_sheet swept, (swept, c.in_ok-swept.ensures.swept, refl, refl))))
