-- The work of an attendant: a thread that serves operators.
use Rattle.std.specs.Prelude.{List}
use Rattle.dcc_receipts.specs.declared.receipt.Receipt.{Receipt}
use Rattle.dcc_rounds.specs.declared.attendant.Attendant.{Attendant}

-- Operators were served at a seat until no more connections were taken in for places. `attends` is the relation between the receipts of the seat
-- before and the receipts after.
pub record Attends (attends : List Receipt → List Receipt → Type 0) (closed : Type 0) (old new : Attendant) : Type 0 where
  pub attended : attends old.seat new.seat
  pub ended : closed
