-- The faults of a plan file.
use Rattle.std.specs.Prelude.{ℕ, Option, Some, None}
use Rattle.dcc_tariff.specs.declared.fault.PlanFault.{PlanFault}
use Rattle.dcc_tariff.specs.declared.fault.PlanFault.TheVariants.{NotToml, MissingKey, Range, BadMoment, Memory}

-- the number of a fault; want of memory has none
abbrev pub fault_number : PlanFault → Option ℕ
fault_number NotToml = Some 20
fault_number MissingKey = Some 21
fault_number Range = Some 22
fault_number BadMoment = Some 23
fault_number Memory = None
