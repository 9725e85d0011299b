-- The words of a command line beside those of its command.
use Rattle.std.specs.Prelude.{◌≡◌, ◌<◌, ℕ, List, codes, length, remove, slice_get, IfSome}

-- one `--explain` was taken out of the words, each of which has this text
abbrev pub IsExplain : {W : Type 0} → (W → List ℕ) → (words left : List W) → Type 0
IsExplain text words left =
    (at : ℕ) × (at < length words) × IfSome (slice_get words at) (λ word. text word ≡ codes "--explain") × (left ≡ remove words at)
