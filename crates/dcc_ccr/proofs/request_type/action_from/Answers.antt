use Rattle.std.proofs.Common.{sym, ap}
use Rattle.dcc_ccr.specs.Types.{action_from}
use Rattle.dcc_ccr.proofs.request_type.action_from.Goals as goal

pub returns-in-0 : goal.returns-in-0
returns-in-0 c = sym (ap action_from c.in-0.is)

pub returns-in-1 : goal.returns-in-1
returns-in-1 c = sym (ap action_from c.in-1.is)

pub returns-in-2 : goal.returns-in-2
returns-in-2 c = sym (ap action_from c.in-2.is)
