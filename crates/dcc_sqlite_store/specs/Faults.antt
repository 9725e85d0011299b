-- The numbers of faults.
use Rattle.std.specs.Prelude.{ℕ}
use Rattle.dcc_sqlite_store.specs.declared.fault.CreateFault.{CreateFault}
use Rattle.dcc_sqlite_store.specs.declared.fault.CreateFault.TheVariants as create
use Rattle.dcc_sqlite_store.specs.declared.fault.OpenFault.{OpenFault}
use Rattle.dcc_sqlite_store.specs.declared.fault.OpenFault.TheVariants as open_fault

abbrev pub create_number : CreateFault → ℕ
create_number create.Memory = 50
create_number create.Device = 51
create_number create.Layout = 53

abbrev pub open_number : OpenFault → ℕ
open_number open_fault.Memory = 50
open_number open_fault.Device = 51
open_number open_fault.Empty = 56
open_number open_fault.Layout = 53
open_number open_fault.Damaged = 55
open_number open_fault.Disagree = 54
