-- Receipts that were audited, and the seats that had them.
use Rattle.std.specs.Prelude.{ℕ, ◌==◌, cond, List, [], ◌∷◌}
use Rattle.dcc_receipts.specs.declared.receipt.Receipt.{Receipt}

-- the receipts of a shard that were audited, in order, and the number of the seat that had each of them
pub record ToldView : Type 0 where
  pub receipts : List Receipt
  pub seats : List ℕ

abbrev pub of_seat : ℕ → List ℕ → List Receipt → List Receipt
of_seat seat [] receipts = []
of_seat seat (one ∷ seats) [] = []
of_seat seat (one ∷ seats) (r ∷ receipts) = cond (one == seat) (r ∷ of_seat seat seats receipts) (of_seat seat seats receipts)

-- those that the seat of this number had, in order
abbrev pub told_of : ℕ → ToldView → List Receipt
told_of seat told = of_seat seat told.seats told.receipts
