use Rattle.std.proofs.Common.{◌≡◌, drop}
use Rattle.dcc_request.specs.Refusals.{first_some}
use Rattle.dcc_request.specs.Checks.{fault_in_group}
use Rattle.dcc_request.proofs.checks.Check.fault_in_groups.Given as goal

abbrev pub invariant-loop-group : goal.invariant-loop-group
invariant-loop-group l = first_some (fault_in_group l.self) (drop l.group-index l.groups) ≡ first_some (fault_in_group l.self) l.groups
