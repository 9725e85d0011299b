-- How sums over threads and their seats go on.
use Rattle.std.proofs.Common.{◌≡◌, ℕ, ◌+◌, ◌<◌, min, List, [], ◌∷◌, ◌++◌, length, get_or, take, Option, Some, None, sym, ap, ◌∙◌, append_assoc, append-nil, arith}
use Rattle.std.proofs.lemmas.List.Elements.{filter_map-append}
use Rattle.std.proofs.lemmas.List.Sums.{sum_by_more}
use Rattle.std.specs.List.{cons_option, filter_map, sum_by}
use Rattle.dcc_rounds.specs.Counting.{at_most}

-- one item more gives something
pub kept_one : {X Y : Type 0} (h : X → Option Y) (room old new : List Y) (xs : List X) (x : X) (y : Y) → old ≡ room ++ filter_map h xs → h x ≡ Some y → new ≡ old ++ y ∷ []
    → new ≡ room ++ filter_map h (xs ++ x ∷ [])
kept_one h room old new xs x y was is more =
    more ∙ ap (λ l. l ++ y ∷ []) was ∙ append_assoc room (filter_map h xs) (y ∷ [])
    ∙ ap (λ l. room ++ l) (sym (filter_map-append h xs (x ∷ []) ∙ ap (λ o. filter_map h xs ++ cons_option o []) is))

-- or nothing
pub kept_none : {X Y : Type 0} (h : X → Option Y) (room old : List Y) (xs : List X) (x : X) → old ≡ room ++ filter_map h xs → h x ≡ None
    → old ≡ room ++ filter_map h (xs ++ x ∷ [])
kept_none h room old xs x was is =
    was ∙ ap (λ l. room ++ l) (sym (filter_map-append h xs (x ∷ []) ∙ ap (λ o. filter_map h xs ++ cons_option o []) is ∙ append-nil (filter_map h xs)))

most_more : (sum more most m n : ℕ) → m ≡ min sum most → n ≡ min (m + more) most → n ≡ min (sum + more) most
most_more sum more most m n was is = omega arith

-- a sum that stops goes on
pub total_more : {X : Type 0} (f : X → ℕ) (xs : List X) (i : ℕ) (x : X) (m n : ℕ) → i < length xs → x ≡ get_or xs i x → m ≡ at_most (sum_by f (take i xs))
    → n ≡ at_most (m + f x) → n ≡ at_most (sum_by f (take (i + 1) xs))
total_more f xs i x m n within at was is =
    most_more (sum_by f (take i xs)) (f x) _ m n was is ∙ ap at_most (ap (λ k. sum_by f (take i xs) + k) (ap f at) ∙ sym (sum_by_more f xs i x within))
