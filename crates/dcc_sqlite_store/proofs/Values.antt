-- Rows by their columns.
use Rattle.std.proofs.Common.{◌≡◌, [], ◌∷◌, length, refl, arith}
use Rattle.sqlite.specs.declared.types.Value.{Value}
use Rattle.sqlite.specs.Order.{Row, column}

pub one_value : (row : Row) (a : Value) → length row ≡ 1 → column row 0 ≡ a → row ≡ a ∷ []
one_value [] a n p = absurd (omega (arith, n))
one_value (x ∷ []) a n p = rw (← p) refl
one_value (x ∷ y ∷ more) a n p = absurd (omega (arith, n))

pub ten_values : (row : Row) (a b c d e f g h i j : Value) → length row ≡ 10 → column row 0 ≡ a → column row 1 ≡ b → column row 2 ≡ c → column row 3 ≡ d → column row 4 ≡ e
    → column row 5 ≡ f → column row 6 ≡ g → column row 7 ≡ h → column row 8 ≡ i → column row 9 ≡ j
    → row ≡ a ∷ b ∷ c ∷ d ∷ e ∷ f ∷ g ∷ h ∷ i ∷ j ∷ []
ten_values [] a b c d e f g h i j n p0 p1 p2 p3 p4 p5 p6 p7 p8 p9 = absurd (omega (arith, n))
ten_values (x1 ∷ []) a b c d e f g h i j n p0 p1 p2 p3 p4 p5 p6 p7 p8 p9 = absurd (omega (arith, n))
ten_values (x1 ∷ x2 ∷ []) a b c d e f g h i j n p0 p1 p2 p3 p4 p5 p6 p7 p8 p9 = absurd (omega (arith, n))
ten_values (x1 ∷ x2 ∷ x3 ∷ []) a b c d e f g h i j n p0 p1 p2 p3 p4 p5 p6 p7 p8 p9 = absurd (omega (arith, n))
ten_values (x1 ∷ x2 ∷ x3 ∷ x4 ∷ []) a b c d e f g h i j n p0 p1 p2 p3 p4 p5 p6 p7 p8 p9 = absurd (omega (arith, n))
ten_values (x1 ∷ x2 ∷ x3 ∷ x4 ∷ x5 ∷ []) a b c d e f g h i j n p0 p1 p2 p3 p4 p5 p6 p7 p8 p9 = absurd (omega (arith, n))
ten_values (x1 ∷ x2 ∷ x3 ∷ x4 ∷ x5 ∷ x6 ∷ []) a b c d e f g h i j n p0 p1 p2 p3 p4 p5 p6 p7 p8 p9 = absurd (omega (arith, n))
ten_values (x1 ∷ x2 ∷ x3 ∷ x4 ∷ x5 ∷ x6 ∷ x7 ∷ []) a b c d e f g h i j n p0 p1 p2 p3 p4 p5 p6 p7 p8 p9 = absurd (omega (arith, n))
ten_values (x1 ∷ x2 ∷ x3 ∷ x4 ∷ x5 ∷ x6 ∷ x7 ∷ x8 ∷ []) a b c d e f g h i j n p0 p1 p2 p3 p4 p5 p6 p7 p8 p9 = absurd (omega (arith, n))
ten_values (x1 ∷ x2 ∷ x3 ∷ x4 ∷ x5 ∷ x6 ∷ x7 ∷ x8 ∷ x9 ∷ []) a b c d e f g h i j n p0 p1 p2 p3 p4 p5 p6 p7 p8 p9 = absurd (omega (arith, n))
ten_values (x1 ∷ x2 ∷ x3 ∷ x4 ∷ x5 ∷ x6 ∷ x7 ∷ x8 ∷ x9 ∷ x10 ∷ []) a b c d e f g h i j n p0 p1 p2 p3 p4 p5 p6 p7 p8 p9 = rw (← p0, ← p1, ← p2, ← p3, ← p4, ← p5, ← p6, ← p7, ← p8, ← p9) refl
ten_values (x1 ∷ x2 ∷ x3 ∷ x4 ∷ x5 ∷ x6 ∷ x7 ∷ x8 ∷ x9 ∷ x10 ∷ x11 ∷ more) a b c d e f g h i j n p0 p1 p2 p3 p4 p5 p6 p7 p8 p9 = absurd (omega (arith, n))
