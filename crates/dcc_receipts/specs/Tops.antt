-- The order of receipts by the greatest place so far.
use Rattle.std.specs.Prelude.{◌≡◌, ℕ, Bool, true, ◌&&◌, ◌||◌, ◌==◌, nat_lt, if◌then◌else◌, max, List, [], ◌∷◌, Option, Some, None}
use Rattle.dcc_receipts.specs.Audit.{in_order}
use Rattle.dcc_receipts.specs.declared.receipt.Receipt.{Receipt}

-- a receipt is after all receipts before it, of whose places this is the greatest
abbrev pub follows : Option ℕ → Receipt → Bool
follows None r = true
follows (Some top) r = if r.fresh then nat_lt top r.place else nat_lt 0 r.place || (top == 0)

abbrev pub top_after : Option ℕ → Receipt → ℕ
top_after None r = r.place
top_after (Some top) r = max top r.place

abbrev pub in_order_by : Option ℕ → List Receipt → Bool
in_order_by top [] = true
in_order_by top (r ∷ rest) = follows top r && in_order_by (Some (top_after top r)) rest

-- the order by the greatest place is the order by pairs
abbrev pub OrdersAgree : Type 0
OrdersAgree = (receipts : List Receipt) → in_order_by None receipts ≡ in_order [] receipts
