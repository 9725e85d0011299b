-- The fault that is reported for a failure of the database.
use Rattle.std.specs.Prelude.{Bool, true, false, ◌&&◌, if◌then◌else◌}
use Rattle.sqlite.specs.declared.error.Error.{Error}
use Rattle.sqlite.specs.declared.error.Error.TheVariants.{SqliteFailure}
use Rattle.sqlite.specs.declared.error.ErrorCode.TheVariants.{OutOfMemory}
use Rattle.dcc_store.specs.declared.fault.StoreFault.{StoreFault}
use Rattle.dcc_store.specs.declared.fault.StoreFault.TheVariants as store
use Rattle.dcc_sqlite_store.specs.declared.fault.CreateFault.{CreateFault}
use Rattle.dcc_sqlite_store.specs.declared.fault.CreateFault.TheVariants as create
use Rattle.dcc_sqlite_store.specs.declared.fault.OpenFault.{OpenFault}
use Rattle.dcc_sqlite_store.specs.declared.fault.OpenFault.TheVariants as open_store

-- memory was refused
abbrev pub is_memory : Error → Bool
is_memory (SqliteFailure OutOfMemory) = true
is_memory _ = false

-- want of memory, if the database answers since then; otherwise a failure of the store
abbrev pub told : Error → Bool → StoreFault
told error answers = if answers && is_memory error then store.Memory else store.Device

abbrev pub unopened : Error → OpenFault
unopened error = if is_memory error then open_store.Memory else open_store.Device

abbrev pub create_fault : StoreFault → CreateFault
create_fault store.Memory = create.Memory
create_fault _ = create.Device

abbrev pub open_fault : StoreFault → OpenFault
open_fault store.Memory = open_store.Memory
open_fault _ = open_store.Device
