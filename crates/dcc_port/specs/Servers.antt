-- The server around a port.
use Rattle.std.specs.Prelude.{ℕ, Bool, List, Result}
use Rattle.dcc_receipts.specs.declared.receipt.Receipt.{Receipt}
use Rattle.dcc_store.specs.Books.{Held}
use Rattle.dcc_port.specs.declared.port.CopyFault.{CopyFault}

-- the relations of a server: how it ends, whether it says that it is to end, the pages of its counters, the beginning of copies in a new folder
-- (the server before it, the folder, the answer, and the server after it), the copy of the store of the shard with an index into a folder, and what it
-- does with a seat behind a call (over the acts at opening: the seat's receipts, so many of which are from before the call, and its receipts then)
pub record Rules (S : Type 0) : Type 1 where
  pub ends : S → S → Type 0
  pub says_end : S → Bool → Type 0
  pub pages : S → List ℕ → Type 0
  pub begins : S → List ℕ → Result (Unit {0}) CopyFault → S → Type 0
  pub copies : S → List ℕ → ℕ → Result (Unit {0}) CopyFault → Type 0
  pub audits : Held → S → List Receipt → ℕ → List Receipt → Type 0
