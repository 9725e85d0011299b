-- The numbers of a store's faults.
use Rattle.std.specs.Prelude.{ℕ}
use Rattle.dcc_store.specs.declared.fault.StoreFault.{StoreFault}
use Rattle.dcc_store.specs.declared.fault.StoreFault.TheVariants.{Memory, Device, Stopped}

abbrev pub fault_number : StoreFault → ℕ
fault_number Memory = 50
fault_number Device = 51
fault_number Stopped = 52
