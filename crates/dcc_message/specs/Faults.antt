-- The numbers of faults.
use Rattle.std.specs.Prelude.{ℕ}
use Rattle.dcc_message.specs.declared.header.HeaderFault.{HeaderFault}
use Rattle.dcc_message.specs.declared.header.HeaderFault.TheVariants.{Version, Length}
use Rattle.dcc_message.specs.declared.length.LengthFault.{LengthFault}
use Rattle.dcc_message.specs.declared.length.LengthFault.TheVariants.{BadLength, TooLong}

abbrev pub length_fault_number : LengthFault → ℕ
length_fault_number BadLength = 11
length_fault_number TooLong = 12

abbrev pub header_fault_number : HeaderFault → ℕ
header_fault_number Version = 10
header_fault_number (Length fault) = length_fault_number fault
