-- Results, and the first error among several.
use Rattle.std.specs.Prelude.{◌≡◌, List, ◌∷◌, ◌++◌, map, Result, Ok, Err, IfOk, IfErr}

-- a result has this fact of its value, or that fact of its error
abbrev pub IsEither : {A E : Type 0} → (A → Type 0) → (E → Type 0) → Result A E → Type 0
IsEither good bad result = IfOk result good × IfErr result bad

-- the first of some results that is an error, behind results that are none
abbrev pub IsFirstError : {A E : Type 0} → List (Result A E) → E → Type 0
IsFirstError {A} {E} all error = (before : List A) × (behind : List (Result A E)) × (all ≡ map Ok before ++ Err error ∷ behind)
