-- The numbers of acts.
use Rattle.std.specs.Prelude.{◌≡◌, ℕ, List, [], ◌∷◌, length}
use Rattle.std.specs.Map.{lookup}
use Rattle.std.specs.Option.{option_map_or}
use Rattle.dcc_act.specs.declared.act.Act.{Act}
use Rattle.dcc_act.specs.declared.sub.Sub.{Sub}
use Rattle.dcc_act.specs.Subs.{same_sub}
use Rattle.dcc_store.specs.Books.{Held}

-- subscribers with the numbers of their acts
abbrev pub Numbers : Type 0
Numbers = List (Sub × ℕ)

-- the number of a subscriber's acts
abbrev pub number_of : Numbers → Sub → ℕ
number_of numbers sub = option_map_or (λ (number : ℕ). number) (lookup (same_sub sub) numbers) 0

-- each subscriber has so many acts
abbrev pub AreNumbersOf : Held → Numbers → Type 0
AreNumbersOf held numbers = (sub : Sub) → number_of numbers sub ≡ length (held sub)

-- the number of these acts, or the number before if there are none
abbrev pub or_before : List Act → ℕ → ℕ
or_before [] before = before
or_before (act ∷ acts) before = length (act ∷ acts)
