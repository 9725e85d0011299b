-- The order of receipts, by pairs and by the greatest place so far.
use Rattle.std.proofs.Common.{◌≡◌, ℕ, Bool, true, false, ◌&&◌, ◌||◌, ◌==◌, nat_lt, max, if◌then◌else◌, List, [], ◌∷◌, Option, Some, None, refl, sym, ap, ◌∙◌, arith}
use Rattle.std.specs.List.{list_all}
use Rattle.std.proofs.lemmas.Grind.{common_steps}
use Rattle.dcc_receipts.specs.Audit.{is_after, in_order}
use Rattle.dcc_receipts.specs.Tops.{follows, top_after, in_order_by}
use Rattle.dcc_receipts.specs.declared.receipt.Receipt.{Receipt}

-- past one number and past another is past the greater of them
past : (a b c : ℕ) → nat_lt a c && nat_lt b c ≡ nat_lt (max b a) c
past a b c = grind (arith, common_steps)

none_of : (a b c : ℕ) → (nat_lt 0 c || (a == 0)) && (nat_lt 0 c || (b == 0)) ≡ nat_lt 0 c || (max b a == 0)
none_of a b c = grind (arith, common_steps)

by_fresh : (fresh : Bool) (a b c : ℕ)
    → (if fresh then nat_lt a c else nat_lt 0 c || (a == 0)) && (if fresh then nat_lt b c else nat_lt 0 c || (b == 0))
    ≡ (if fresh then nat_lt (max b a) c else nat_lt 0 c || (max b a == 0))
by_fresh true a b c = past a b c
by_fresh false a b c = none_of a b c

and_true : (b : Bool) → b && true ≡ b
and_true true = refl
and_true false = refl

-- a receipt is after all of these and one more just where it's after the greatest of their places
more : (top : Option ℕ) (one later : Receipt) → is_after one later && follows top later ≡ follows (Some (top_after top one)) later
more None one later = and_true (is_after one later)
more (Some top) one later = by_fresh later.fresh one.place top later.place

by_tops : (top : Option ℕ) (before rest : List Receipt) → ((r : Receipt) → list_all (λ earlier. is_after earlier r) before ≡ follows top r)
    → in_order_by top rest ≡ in_order before rest
by_tops top before [] same = refl
by_tops top before (r ∷ rest) same =
    ap (λ b. b && in_order_by (Some (top_after top r)) rest) (sym (same r))
    ∙ ap (λ b. list_all (λ earlier. is_after earlier r) before && b)
    (by_tops (Some (top_after top r)) (r ∷ before) rest (λ later. ap (λ b. is_after r later && b) (same later) ∙ more top r later))

pub by_top : (receipts : List Receipt) → in_order_by None receipts ≡ in_order [] receipts
by_top receipts = by_tops None [] receipts (λ r. refl)
