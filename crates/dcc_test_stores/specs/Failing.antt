-- Records of which one append fails, as a contract sees them.
use Rattle.std.specs.Prelude.{ℕ, Bool}
use Rattle.dcc_store.specs.Memory.{MemoryView}

-- the records; the number of appends up to the failing append, which counts, or 0 if no append fails; and whether it has failed
pub record OnceView : Type 0 where
  pub inner : MemoryView
  pub to_go : ℕ
  pub stopped : Bool
