-- Rows of entries.
use Rattle.std.proofs.Common.{◌≡◌, ◌≢◌, ℕ, zero, suc, ◌+◌, ◌<◌, ◌≤◌, List, [], ◌∷◌, length, take, get_or, refl, sym, ap, ◌∙◌, arith}
use Rattle.sqlite.specs.Order.{Row}
use Rattle.dcc_act.specs.declared.entry.Entry.{Entry}
use Rattle.dcc_sqlite_rows.specs.Rows.{entry_row, entry_rows_of}

-- as many rows as entries
pub as_many : (sub : List ℕ) (place line : ℕ) (es : List Entry) → length (entry_rows_of sub place line es) ≡ length es
as_many sub place line [] = refl
as_many sub place line (e ∷ es) = ap suc (as_many sub place (line + 1) es)

-- the row of each
row_at : (sub : List ℕ) (place line : ℕ) (es : List Entry) (i : ℕ) (r : Row) (e : Entry) → i < length es → get_or (entry_rows_of sub place line es) i r ≡ entry_row sub place (line + i + 1) (get_or es i e)
row_at sub place line [] i r e below = absurd (omega (arith, below))
row_at sub place line (x ∷ es) zero r e below = ap (λ (n : ℕ). entry_row sub place n x) (omega arith)
row_at sub place line (x ∷ es) (suc i) r e below = row_at sub place (line + 1) es i r e (omega (arith, below)) ∙ ap (λ (n : ℕ). entry_row sub place n (get_or es i e)) (omega arith)

pub first_row_at : (sub : List ℕ) (place : ℕ) (es : List Entry) (i : ℕ) (r : Row) (e : Entry) → i < length es → get_or (entry_rows_of sub place 0 es) i r ≡ entry_row sub place (i + 1) (get_or es i e)
first_row_at sub place es i r e below = row_at sub place 0 es i r e below ∙ ap (λ (n : ℕ). entry_row sub place n (get_or es i e)) (omega arith)

get_taken : {X : Type 0} (n i : ℕ) (xs : List X) (d : X) → i < n → get_or (take n xs) i d ≡ get_or xs i d
get_taken zero i xs d h = absurd (omega (arith, h))
get_taken (suc n) i [] d h = refl
get_taken (suc n) zero (x ∷ xs) d h = refl
get_taken (suc n) (suc i) (x ∷ xs) d h = get_taken n i xs d (omega (arith, h))

-- rows that differ at one place from those of the entries
pub differs_at : (sub : List ℕ) (place : ℕ) (es : List Entry) (rows : List Row) (i : ℕ) (r : Row) (e : Entry) → i < length es → get_or rows i r ≢ entry_row sub place (i + 1) (get_or es i e)
    → take (length es) rows ≢ entry_rows_of sub place 0 es
differs_at sub place es rows i r e below other same =
    other (sym (get_taken (length es) i rows r below) ∙ ap (λ (all : List Row). get_or all i r) same ∙ first_row_at sub place es i r e below)

pub same_at : {X : Type 0} (xs ys : List X) → length xs ≡ length ys → ((i : ℕ) (d : X) → i < length xs → get_or xs i d ≡ get_or ys i d) → xs ≡ ys
same_at [] [] n h = refl
same_at [] (y ∷ ys) n h = absurd (omega (arith, n))
same_at (x ∷ xs) [] n h = absurd (omega (arith, n))
same_at (x ∷ xs) (y ∷ ys) n h =
    let head : x ≡ y = h 0 x (omega arith) in
    let tail : xs ≡ ys = same_at xs ys (omega (arith, n)) (λ i d below. h (suc i) d (omega (arith, below))) in
    cc

length_take : {X : Type 0} (n : ℕ) (xs : List X) → n ≤ length xs → length (take n xs) ≡ n
length_take zero xs h = refl
length_take (suc n) [] h = absurd (omega (arith, h))
length_take (suc n) (x ∷ xs) h = ap suc (length_take n xs (omega (arith, h)))

-- rows that are those of the entries at each place
pub same_rows : (sub : List ℕ) (place : ℕ) (es : List Entry) (rows : List Row) → length es ≤ length rows
    → ((i : ℕ) (r : Row) (e : Entry) → i < length es → get_or rows i r ≡ entry_row sub place (i + 1) (get_or es i e)) → Entry → take (length es) rows ≡ entry_rows_of sub place 0 es
same_rows sub place es rows fits at none =
    let len : length (take (length es) rows) ≡ length es = length_take (length es) rows fits in
    same_at (take (length es) rows) (entry_rows_of sub place 0 es) (len ∙ sym (as_many sub place 0 es))
    (λ i d below. let low : i < length es = omega (arith, below, len) in get_taken (length es) i rows d low ∙ at i d none low ∙ sym (first_row_at sub place es i d none low))

-- too few rows
pub too_few : (sub : List ℕ) (place : ℕ) (es : List Entry) (rows : List Row) → length rows < length es → take (length es) rows ≢ entry_rows_of sub place 0 es
too_few sub place es rows few same =
    let a : length (take (length es) rows) ≡ length es = ap length same ∙ as_many sub place 0 es in
    absurd (let b = short (length es) rows in omega (arith, a, b, few))
  where
    short : {X : Type 0} (n : ℕ) (xs : List X) → length (take n xs) ≤ length xs
    short zero xs = omega arith
    short (suc n) [] = omega arith
    short (suc n) (x ∷ xs) = let r = short n xs in omega (arith, r)

pub all_rows : (sub : List ℕ) (place : ℕ) (es : List Entry) (rows : List Row) → length es ≤ length rows
    → ((i : ℕ) (r : Row) (e : Entry) → i < length es → get_or rows i r ≡ entry_row sub place (i + 1) (get_or es i e)) → take (length es) rows ≡ entry_rows_of sub place 0 es
all_rows sub place [] rows fits at = refl
all_rows sub place (e ∷ es) rows fits at = same_rows sub place (e ∷ es) rows fits at e
