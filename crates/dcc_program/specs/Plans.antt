-- The plan of a file's octets.
use Rattle.std.specs.Prelude.{⊤, ◌≡◌, ℕ, List, Option, Some, Result, Ok, Err, ◌⊎◌, IfSome, if◌then◌else◌}
use Rattle.std.specs.Str.{is_utf8}
use Rattle.dcc_tariff.specs.Plans.{PlanView}
use Rattle.dcc_tariff.specs.PlanTexts.{plan_of_text}
use Rattle.dcc_tariff.specs.Faults.{fault_number}
use Rattle.dcc_tariff.specs.declared.fault.PlanFault.{PlanFault}
use Rattle.dcc_tariff.specs.declared.fault.PlanFault.TheVariants.{NotToml}
use Rattle.dcc_program.specs.declared.failure.Failure.{Failure}
use Rattle.dcc_program.specs.declared.failure.Failure.TheVariants.{Usage, Memory, Io, Plan, Store, Script, Close}
use Rattle.dcc_program.specs.Failures.{of_plan}

-- octets that are no text are no TOML document
unfoldable pub plan_of_octets : List ℕ → Result PlanView PlanFault
plan_of_octets octets = if is_utf8 octets then plan_of_text octets else Err NotToml

-- the plan is the plan of the file's octets, if they are known
abbrev pub IsPlanOf : Option (List ℕ) → PlanView → Type 0
IsPlanOf file plan = IfSome file (λ octets. plan_of_octets octets ≡ Ok plan)

-- the failure that is reported for a plan that can't be read: its fault, or want of memory
abbrev pub IsRefusal : Result PlanView PlanFault → Failure → Type 0
IsRefusal plan failure = (failure ≡ Memory) ⊎ ((fault : PlanFault) × (plan ≡ Err fault) × (failure ≡ of_plan fault))

-- the failures of a plan's file: the fault of its octets, if they are known, by its number; or memory; or input
abbrev pub IsPlanFailure : Option (List ℕ) → Failure → Type 0
IsPlanFailure file Usage = ⊥
IsPlanFailure file Memory = ⊤
IsPlanFailure file Io = ⊤
IsPlanFailure file (Plan number) = (fault : PlanFault) × (fault_number fault ≡ Some number)
    × IfSome file (λ octets. plan_of_octets octets ≡ Err fault)
IsPlanFailure file (Store number) = ⊥
IsPlanFailure file (Script line) = ⊥
IsPlanFailure file (Close number) = ⊥
