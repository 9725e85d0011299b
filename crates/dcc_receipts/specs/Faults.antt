-- The numbers of the faults of receipts.
use Rattle.std.specs.Prelude.{ℕ, Option, Some, None}
use Rattle.dcc_receipts.specs.declared.fault.CloseFault.{CloseFault}
use Rattle.dcc_receipts.specs.declared.fault.CloseFault.TheVariants.{Memory, ReceiptStray, ActWithoutReceipt, OutOfOrder}

-- the number of a fault; want of memory has none
abbrev pub fault_number : CloseFault → Option ℕ
fault_number Memory = None
fault_number ReceiptStray = Some 60
fault_number ActWithoutReceipt = Some 61
fault_number OutOfOrder = Some 62
