-- Records behind a gate, as a contract sees them.
use Rattle.std.specs.Prelude.{Bool}
use Rattle.dcc_store.specs.Memory.{MemoryView}

-- the records, and whether they are stopped since the gate once stayed shut
pub record GateView : Type 0 where
  pub inner : MemoryView
  pub stopped : Bool
