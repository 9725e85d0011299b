-- Lists, places in them, and rows by their columns.
use Rattle.std.proofs.Common.{◌≡◌, ℕ, zero, suc, ◌+◌, ◌≤◌, List, [], ◌∷◌, ◌++◌, length, take, drop, refl, sym, ap, ◌∙◌, arith}
use Rattle.sqlite.specs.declared.types.Value.{Value}
use Rattle.sqlite.specs.Order.{Row, column}

pub three_values : (row : Row) (a b c : Value) → length row ≡ 3 → column row 0 ≡ a → column row 1 ≡ b → column row 2 ≡ c → row ≡ a ∷ b ∷ c ∷ []
three_values [] a b c n p q r = absurd (omega (arith, n))
three_values (x ∷ []) a b c n p q r = absurd (omega (arith, n))
three_values (x ∷ y ∷ []) a b c n p q r = absurd (omega (arith, n))
three_values (x ∷ y ∷ z ∷ []) a b c n p q r = rw (← p, ← q, ← r) refl
three_values (x ∷ y ∷ z ∷ w ∷ more) a b c n p q r = absurd (omega (arith, n))

pub seven_values : (row : Row) (a b c d e f g : Value) → length row ≡ 7 → column row 0 ≡ a → column row 1 ≡ b → column row 2 ≡ c → column row 3 ≡ d → column row 4 ≡ e → column row 5 ≡ f → column row 6 ≡ g
    → row ≡ a ∷ b ∷ c ∷ d ∷ e ∷ f ∷ g ∷ []
seven_values [] a b c d e f g n h i j k l m o = absurd (omega (arith, n))
seven_values (x1 ∷ []) a b c d e f g n h i j k l m o = absurd (omega (arith, n))
seven_values (x1 ∷ x2 ∷ []) a b c d e f g n h i j k l m o = absurd (omega (arith, n))
seven_values (x1 ∷ x2 ∷ x3 ∷ []) a b c d e f g n h i j k l m o = absurd (omega (arith, n))
seven_values (x1 ∷ x2 ∷ x3 ∷ x4 ∷ []) a b c d e f g n h i j k l m o = absurd (omega (arith, n))
seven_values (x1 ∷ x2 ∷ x3 ∷ x4 ∷ x5 ∷ []) a b c d e f g n h i j k l m o = absurd (omega (arith, n))
seven_values (x1 ∷ x2 ∷ x3 ∷ x4 ∷ x5 ∷ x6 ∷ []) a b c d e f g n h i j k l m o = absurd (omega (arith, n))
seven_values (x1 ∷ x2 ∷ x3 ∷ x4 ∷ x5 ∷ x6 ∷ x7 ∷ []) a b c d e f g n h i j k l m o = rw (← h, ← i, ← j, ← k, ← l, ← m, ← o) refl
seven_values (x1 ∷ x2 ∷ x3 ∷ x4 ∷ x5 ∷ x6 ∷ x7 ∷ x8 ∷ more) a b c d e f g n h i j k l m o = absurd (omega (arith, n))

pub take_at_end : {X : Type 0} (n : ℕ) (xs ys : List X) → n ≡ length xs → take n (xs ++ ys) ≡ xs
take_at_end zero [] ys e = refl
take_at_end (suc n) [] ys e = absurd (omega (arith, e))
take_at_end zero (x ∷ xs) ys e = absurd (omega (arith, e))
take_at_end (suc n) (x ∷ xs) ys e = ap (λ (l : List _). x ∷ l) (take_at_end n xs ys (omega (arith, e)))

pub drop_at_end : {X : Type 0} (n : ℕ) (xs ys : List X) → n ≡ length xs → drop n (xs ++ ys) ≡ ys
drop_at_end zero [] ys e = refl
drop_at_end (suc n) [] ys e = absurd (omega (arith, e))
drop_at_end zero (x ∷ xs) ys e = absurd (omega (arith, e))
drop_at_end (suc n) (x ∷ xs) ys e = drop_at_end n xs ys (omega (arith, e))

same_number : (n m : ℕ) → suc n + m ≡ suc (n + m)
same_number n m = omega arith

take_none : {X : Type 0} (k : ℕ) → take {A = X} k [] ≡ []
take_none zero = refl
take_none (suc k) = refl

pub take_plus : {X : Type 0} (n m : ℕ) (xs : List X) → take (n + m) xs ≡ take n xs ++ take m (drop n xs)
take_plus zero m xs = ap (λ (k : ℕ). take k xs) (omega arith)
take_plus (suc n) m [] = take_none (suc n + m) ∙ sym (take_none m)
take_plus (suc n) m (x ∷ xs) = ap (λ (k : ℕ). take k (x ∷ xs)) (same_number n m) ∙ ap (λ (l : List _). x ∷ l) (take_plus n m xs)

pub split_at : {X : Type 0} (n : ℕ) (xs : List X) → take n xs ++ drop n xs ≡ xs
split_at zero xs = refl
split_at (suc n) [] = refl
split_at (suc n) (x ∷ xs) = ap (λ (l : List _). x ∷ l) (split_at n xs)

pub take_all : {X : Type 0} (n : ℕ) (xs : List X) → n ≡ length xs → take n xs ≡ xs
take_all zero [] e = refl
take_all (suc n) [] e = refl
take_all zero (x ∷ xs) e = absurd (omega (arith, e))
take_all (suc n) (x ∷ xs) e = ap (λ (l : List _). x ∷ l) (take_all n xs (omega (arith, e)))

pub length_taken : {X : Type 0} (n : ℕ) (xs : List X) → n ≤ length xs → length (take n xs) ≡ n
length_taken zero xs h = refl
length_taken (suc n) [] h = absurd (omega (arith, h))
length_taken (suc n) (x ∷ xs) h = ap suc (length_taken n xs (omega (arith, h)))

-- what two lists that begin alike go on with
pub same_rest : {X : Type 0} (front xs ys : List X) → front ++ xs ≡ front ++ ys → xs ≡ ys
same_rest [] xs ys e = e
same_rest (x ∷ front) xs ys e = same_rest front xs ys (let t : front ++ xs ≡ front ++ ys = cc in t)

pub last_of : {X : Type 0} (xs ys : List X) (x y : X) → xs ++ x ∷ [] ≡ ys ++ y ∷ [] → (xs ≡ ys) × (x ≡ y)
last_of [] [] x y e = (refl, let t : x ≡ y = cc in t)
last_of [] (b ∷ []) x y e = absurd (let t : [] ≡ y ∷ [] = cc in cc)
last_of [] (b ∷ c ∷ ys) x y e = absurd (let t : [] ≡ c ∷ ys ++ y ∷ [] = cc in cc)
last_of (a ∷ []) [] x y e = absurd (let t : x ∷ [] ≡ [] = cc in cc)
last_of (a ∷ c ∷ xs) [] x y e = absurd (let t : c ∷ xs ++ x ∷ [] ≡ [] = cc in cc)
last_of (a ∷ xs) (b ∷ ys) x y e =
    let h : a ≡ b = cc in
    let t : xs ++ x ∷ [] ≡ ys ++ y ∷ [] = cc in
    let r = last_of xs ys x y t in
    let s = r.0 in
    (let k : a ∷ xs ≡ b ∷ ys = cc in k, r.1)
