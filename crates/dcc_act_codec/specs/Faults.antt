-- The fault of a record.
use Rattle.std.specs.Prelude.{ℕ, Option, Some, None}
use Rattle.dcc_act_codec.specs.declared.fault.RecordFault.{RecordFault}
use Rattle.dcc_act_codec.specs.declared.fault.RecordFault.TheVariants.{BadRecord, Memory}

-- the number of a fault; want of memory has none
abbrev pub fault_number : RecordFault → Option ℕ
fault_number BadRecord = Some 40
fault_number Memory = None
