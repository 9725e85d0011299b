use Rattle.std.proofs.Common.{sym, ◌∙◌}
use Rattle.dcc_request.proofs.Counts.{no_fault}
use Rattle.dcc_request.proofs.checks.count_fault.Goals as goal

pub returns-then-all_fit : goal.returns-then-all_fit
returns-then-all_fit c = sym (no_fault c.args.table.now c.args.avps.now c.args.groups.now (sym c.all_fit.ensures ∙ c.if-all_fit.true))
