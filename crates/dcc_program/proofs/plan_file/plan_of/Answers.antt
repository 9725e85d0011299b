use Rattle.std.proofs.Common.{◌∙◌}
use Rattle.dcc_program.proofs.PlanLemmas.{plan_of_octets-text, no_text, refused}
use Rattle.dcc_program.proofs.plan_file.plan_of.Goals as goal

pub returns-in_default-clause-err : goal.returns-in_default-clause-err
returns-in_default-clause-err c = no_text c.args.octets.now c.from.result c.in_default.ensures.cases.0 c.from.ensures

pub returns-in_err-read-clause-err : goal.returns-in_err-read-clause-err
returns-in_err-read-clause-err c =
    refused c.args.octets.now c.in-Ok.text.now c.in_err-read.field-0.0 c.from_residual.result
    c.in-Ok.ensures.cases.0 c.in-Ok.ensures.cases.1 c.in_err-read.ensures c.from_residual.ensures.1

pub returns-clause-ok : goal.returns-clause-ok
returns-clause-ok c = plan_of_octets-text c.args.octets.now c.in-Ok.ensures.cases.1 ∙ rw c.in-Ok.ensures.cases.0 at c.in_ok-read.ensures
