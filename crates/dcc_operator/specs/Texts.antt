-- The part of a text that a failed writer has.
use Rattle.std.specs.Prelude.{ℕ, List, Option, take}
use Rattle.std.specs.Io.KnownBytes.{Appends}

-- a writer, before and after, has grown by the first octets of a text
abbrev pub IsBegun : List ℕ → (old new : Option (List ℕ)) → Type 0
IsBegun text old new = (n : ℕ) × Appends old new (take n text)
