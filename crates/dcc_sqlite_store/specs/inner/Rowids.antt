-- Rows that are one integer each.
use Rattle.std.specs.Prelude.{◌≡◌, ℤ, ◌<ℤ◌, List, [], ◌∷◌, ⊤}
use Rattle.sqlite.specs.declared.types.Value.TheVariants.{Int}
use Rattle.sqlite.specs.Order.{Row}

-- each is above this number, and above the one before it
abbrev pub AreAbove : List Row → ℤ → Type 0
AreAbove [] low = ⊤
AreAbove (row ∷ rows) low = (id : ℤ) × (row ≡ Int id ∷ []) × (low <ℤ id) × AreAbove rows id

-- each is above the one before it
abbrev pub AreRising : List Row → Type 0
AreRising [] = ⊤
AreRising (row ∷ rows) = (id : ℤ) × (row ≡ Int id ∷ []) × AreAbove rows id
