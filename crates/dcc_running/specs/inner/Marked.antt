-- Places that are marked.
use Rattle.std.specs.Prelude.{◌≡◌, ◌⊎◌, ℕ, ◌<◌, true, cond, List}
use Rattle.dcc_act.specs.declared.sub.Sub.{Sub}
use Rattle.dcc_receipts.specs.Marks.{MarksView, is_marked}
use Rattle.dcc_receipts.specs.declared.receipt.Receipt.{Receipt}
use Rattle.dcc_running.specs.Audited.{times_in}
use Rattle.dcc_running.specs.Books.{told_in}
use Rattle.dcc_running.specs.declared.lock.Side.{Side}

-- the marks are the places of the fresh receipts of these seats, each of which has one such receipt
abbrev pub AreMarked : MarksView → List (List Receipt) → Type 0
AreMarked marks seats = (sub : Sub) (place : ℕ) → cond (is_marked marks sub place) 1 0 ≡ times_in sub place seats

-- a place has a fresh receipt of a seat, or one that was audited
abbrev pub IsCovered : MarksView → List Side → Sub → ℕ → Type 0
IsCovered marks sides sub place = (is_marked marks sub place ≡ true) ⊎ (0 < times_in sub place (told_in sides))
