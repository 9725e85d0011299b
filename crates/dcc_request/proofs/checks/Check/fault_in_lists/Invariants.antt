use Rattle.std.proofs.Common.{◌≡◌, drop}
use Rattle.dcc_request.specs.Refusals.{first_some}
use Rattle.dcc_request.specs.Checks.{fault_of}
use Rattle.dcc_request.proofs.checks.Check.fault_in_lists.Given as goal

abbrev pub invariant-loop-list : goal.invariant-loop-list
invariant-loop-list l = first_some (fault_of l.self) (drop l.list-index l.lists) ≡ first_some (fault_of l.self) l.lists
