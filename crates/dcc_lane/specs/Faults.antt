-- The number of a fault.
use Rattle.std.specs.Prelude.{ℕ, Option, Some, None}
use Rattle.dcc_lane.specs.declared.receiver.LaneFault.{LaneFault}
use Rattle.dcc_lane.specs.declared.receiver.LaneFault.TheVariants.{SenderMissing, Memory}

abbrev pub lane_fault_number : LaneFault → Option ℕ
lane_fault_number SenderMissing = Some 80
lane_fault_number Memory = None
