use Rattle.std.proofs.Common.{◌≡◌, drop}
use Rattle.dcc_request.specs.Refusals.{first_some}
use Rattle.dcc_base.specs.Capabilities.{misshapen_inside}
use Rattle.dcc_base.proofs.capabilities.misshapen_in_groups.Given as goal

abbrev pub invariant-loop-group : goal.invariant-loop-group
invariant-loop-group l = first_some misshapen_inside (drop l.group-index l.groups) ≡ first_some misshapen_inside l.groups
