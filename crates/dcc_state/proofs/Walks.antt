-- Lists walked from their beginning, one item more at a time.
use Rattle.std.proofs.Common.{◌≡◌, ℕ, ◌+◌, ◌<◌, List, [], ◌∷◌, ◌++◌, length, take, get_or, refl, sym, ap, ◌∙◌, Option, Some, None}
use Rattle.std.specs.Prelude.{filter_map}
use Rattle.std.specs.Option.{option_to_list}
use Rattle.std.proofs.lemmas.List.{take_more}
use Rattle.std.proofs.lemmas.List.Elements.{filter_map-append}

one : {A B : Type 0} (f : A → Option B) (x : A) (y : Option B) → f x ≡ y → filter_map f (x ∷ []) ≡ option_to_list y
one f x None is = rw is refl
one f x (Some y) is = rw is refl

-- what one more item gives stands behind
pub filter_map_more : {A B : Type 0} (f : A → Option B) (xs : List A) (i : ℕ) (x : A) (y : Option B) → i < length xs → x ≡ get_or xs i x → f x ≡ y
    → filter_map f (take (i + 1) xs) ≡ filter_map f (take i xs) ++ option_to_list y
filter_map_more f xs i x y within is gives =
    ap (filter_map f) (take_more xs i x within) ∙ filter_map-append f (take i xs) (get_or xs i x ∷ [])
    ∙ ap (λ a. filter_map f (take i xs) ++ filter_map f (a ∷ [])) (sym is) ∙ ap (λ found. filter_map f (take i xs) ++ found) (one f x y gives)
