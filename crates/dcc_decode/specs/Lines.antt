-- The lines of a text, and the messages in them.
use Rattle.std.specs.Prelude.{ℕ, ◌-◌, ◌+◌, ◌==◌, ◌||◌, ◌∷◌, [], if◌then◌else◌, codes, List, length, take, unwrap_or, bytes_eq, Option, Some, None, Result, Ok, Err}
use Rattle.std.specs.List.{slice_split, before_first}
use Rattle.hex.specs.Hex.{decode_of}
use Rattle.hex.specs.declared.error.FromHexError.{FromHexError}

-- an octet before the lines of what follows it, when it ends no line
abbrev pub onto_first : ℕ → List (List ℕ) → List (List ℕ)
onto_first octet [] = (octet ∷ []) ∷ []
onto_first octet (line ∷ lines) = (octet ∷ line) ∷ lines

-- the lines of a text, each with its line feed, which the last may lack
unfoldable pub lines_of : List ℕ → List (List ℕ)
lines_of [] = []
lines_of (octet ∷ text) = if octet == 10 then (octet ∷ []) ∷ lines_of text else onto_first octet (lines_of text)

-- a line without its line feed
abbrev pub body_of : List ℕ → List ℕ
body_of line = before_first (λ octet. octet == 10) line

-- the words of a line: what stands between its spaces
abbrev pub words_of : List ℕ → List (List ℕ)
words_of body = slice_split (λ octet. octet == 32) body

-- The hex digits of a message among the words of a line: the one word, the fourth one behind `message`, as in a script, or
-- the fourth one where the second is `answer`, as in what is printed of a replay.
unfoldable pub digits_of : List (List ℕ) → Option (List ℕ)
digits_of (only ∷ []) = Some only
digits_of (first ∷ second ∷ third ∷ fourth ∷ []) =
    if bytes_eq first (codes "message") || bytes_eq second (codes "answer") then Some fourth else None
digits_of others = None

-- the octets that digits spell, at least one
abbrev pub some_octets : Result (List ℕ) FromHexError → Option (List ℕ)
some_octets (Ok []) = None
some_octets (Ok (octet ∷ octets)) = Some (octet ∷ octets)
some_octets (Err fault) = None

abbrev pub octets_of : Option (List ℕ) → Option (List ℕ)
octets_of None = None
octets_of (Some digits) = some_octets (decode_of digits)

-- the octets of the message in a line, if it holds one
abbrev pub message_of : List ℕ → Option (List ℕ)
message_of line = octets_of (digits_of (words_of (body_of line)))

-- what stands in front of that message in its line, without the space between
abbrev pub before_digits : List ℕ → List ℕ → List ℕ
before_digits body digits = take (length body - (length digits + 1)) body

abbrev pub front_of : List ℕ → List ℕ
front_of line = before_digits (body_of line) (unwrap_or (digits_of (words_of (body_of line))) [])
