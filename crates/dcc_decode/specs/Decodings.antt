-- What is written of a text.
use Rattle.std.specs.Prelude.{◌≡◌, ℕ, List, [], ◌∷◌, ◌++◌, take, Option, Some, None, IfSome}
use Rattle.std.specs.Io.KnownBytes.{Appends}
use Rattle.dcc_decode.specs.Texts.{IsTree}
use Rattle.dcc_decode.specs.Lines.{lines_of, message_of, front_of}

-- what stands in front of a message, as a line of its own
abbrev pub heading_of : List ℕ → List ℕ
heading_of [] = []
heading_of (octet ∷ front) = (octet ∷ front) ++ 10 ∷ []

-- of a line without a message that line is written, and of another one what stands in front of its message, and then its tree
abbrev pub IsShown : (line : List ℕ) → Option (List ℕ) → (written : List ℕ) → Type 0
IsShown line None written = written ≡ line
IsShown line (Some message) written = (tree : List ℕ) × (written ≡ heading_of (front_of line) ++ tree) × IsTree message tree

-- lines are shown one after another, and nothing else is written
abbrev pub AreShown : List (List ℕ) → List ℕ → Type 0
AreShown [] written = written ≡ []
AreShown (line ∷ lines) written =
    (piece : List ℕ) × (rest : List ℕ) × (written ≡ piece ++ rest) × IsShown line (message_of line) piece × AreShown lines rest

-- this is what is written of a text
abbrev pub IsDecoded : List ℕ → List ℕ → Type 0
IsDecoded text written = AreShown (lines_of text) written

-- a writer, before and after, has grown by what is written of the text, where that is known
abbrev pub IsWritten : (text old new : Option (List ℕ)) → Type 0
IsWritten text old new = (written : List ℕ) × IfSome text (λ octets. IsDecoded octets written) × Appends old new written

-- or by its first octets
abbrev pub IsBegun : (text old new : Option (List ℕ)) → Type 0
IsBegun text old new =
    (written : List ℕ) × (n : ℕ) × IfSome text (λ octets. IsDecoded octets written) × Appends old new (take n written)
