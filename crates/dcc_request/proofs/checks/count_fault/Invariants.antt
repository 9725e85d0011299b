use Rattle.std.proofs.Common.{◌≡◌, [], ◌∷◌, drop}
use Rattle.dcc_request.specs.declared.checks.Check.TheVariants.{TooMany, Missing}
use Rattle.dcc_request.specs.Refusals.{first_some}
use Rattle.dcc_request.specs.Checks.{fault_anywhere}
use Rattle.dcc_request.proofs.checks.count_fault.Given as goal

abbrev pub invariant-loop-check : goal.invariant-loop-check
invariant-loop-check l =
    first_some (fault_anywhere l.table l.avps l.groups) (drop l.check-index l.check-items)
    ≡ first_some (fault_anywhere l.table l.avps l.groups) (TooMany ∷ Missing ∷ [])
