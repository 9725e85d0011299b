-- Receipts that were audited, the marks of their places, and the greatest place of each subscriber and seat.
use Rattle.std.specs.Prelude.{◌≡◌, ℕ, ◌==◌, ◌&&◌, ◌||◌, not, nat_lt, Bool, true, false, cond, List, [], ◌∷◌, ◌++◌, map, Option, None}
use Rattle.std.specs.List.{list_all}
use Rattle.std.specs.Map.{lookup}
use Rattle.std.specs.declared.snapshot.Snapshot.{Snapshot}
use Rattle.dcc_act.specs.declared.sub.Sub.{Sub}
use Rattle.dcc_act.specs.Subs.{same_sub}
use Rattle.dcc_receipts.specs.Audit.{own, in_order, times}
use Rattle.dcc_receipts.specs.Marks.{MarksView, is_marked}
use Rattle.dcc_receipts.specs.Tops.{in_order_by}
use Rattle.dcc_receipts.specs.declared.fault.CloseFault.{CloseFault}
use Rattle.dcc_receipts.specs.declared.fault.CloseFault.TheVariants.{Memory, ReceiptStray, ActWithoutReceipt, OutOfOrder}
use Rattle.dcc_receipts.specs.declared.receipt.Receipt.{Receipt}
use Rattle.dcc_running.specs.Told.{ToldView, of_seat, told_of}

-- the values at the time of these snapshots
abbrev pub values : List (Snapshot Receipt) → List Receipt
values snapshots = map (λ (s : Snapshot Receipt). s.value) snapshots

-- a place is marked if one of the receipts is fresh and has this place, and no two are
abbrev pub AreMarksOf : MarksView → List Receipt → Type 0
AreMarksOf marks receipts = (sub : Sub) (place : ℕ) → cond (is_marked marks sub place) 1 0 ≡ times place (own sub receipts)

abbrev pub numbers : List (Snapshot ℕ) → List ℕ
numbers snapshots = map (λ (s : Snapshot ℕ). s.value) snapshots

-- no receipts
abbrev pub none_told : ToldView
none_told = record { receipts = []; seats = [] }

-- one more, which a seat had
abbrev pub told_with : ToldView → ℕ → Receipt → ToldView
told_with told seat r = record { receipts = told.receipts ++ r ∷ []; seats = told.seats ++ seat ∷ [] }

-- seats and subscribers, each pair with the greatest place of the subscriber's receipts that the seat had
abbrev pub Tops : Type 0
Tops = List ((ℕ × Sub) × ℕ)

abbrev pub top_in : Tops → ℕ → Sub → Option ℕ
top_in tops seat sub = lookup (λ k. (seat == k.0) && same_sub sub k.1) tops

-- a receipt that is fresh has a place
abbrev pub is_placed : Receipt → Bool
is_placed r = not r.fresh || nat_lt 0 r.place

abbrev pub are_placed : List Receipt → Bool
are_placed receipts = list_all is_placed receipts

-- these are the greatest places, and the receipts of each seat are in order: behind them, others are in order exactly if they are behind the greatest places
abbrev pub AreTops : Tops → List ℕ → List Receipt → Type 0
AreTops tops seats receipts = (seat : ℕ) (sub : Sub) (rest : List Receipt) → are_placed rest ≡ true
    → in_order_by (top_in tops seat sub) rest ≡ in_order_by None (own sub (of_seat seat seats receipts) ++ rest)

-- a seat's receipt isn't after those of its subscriber that were audited
abbrev pub IsBefore : ToldView → ℕ → Receipt → Type 0
IsBefore told seat r = in_order [] (own r.sub (told_of seat told ++ r ∷ [])) ≡ false

-- the reason for which a receipt isn't kept; nothing is said if memory was short
abbrev pub IsTwice : CloseFault → ToldView → ℕ → Receipt → Type 0
IsTwice Memory told seat r = Unit {0}
IsTwice ReceiptStray told seat r = (r.fresh ≡ true) × (times r.place (own r.sub told.receipts) ≡ 1)
IsTwice ActWithoutReceipt told seat r = ⊥
IsTwice OutOfOrder told seat r = IsBefore told seat r
