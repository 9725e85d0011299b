-- The numbers of faults.
use Rattle.std.specs.Prelude.{ℕ, Option, Some, None}
use Rattle.dcc_message.specs.Faults.{header_fault_number}
use Rattle.dcc_connect.specs.declared.fault.ConnectFault.{ConnectFault}
use Rattle.dcc_connect.specs.declared.fault.ConnectFault.TheVariants.{Read, Write, TooManyTurns, Header, Memory}

abbrev pub connect_fault_number : ConnectFault → Option ℕ
connect_fault_number Read = Some 70
connect_fault_number (Write written) = Some 71
connect_fault_number TooManyTurns = Some 72
connect_fault_number (Header fault) = Some (header_fault_number fault)
connect_fault_number Memory = None
