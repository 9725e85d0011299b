-- The values of the words of a script.
use Rattle.std.specs.Prelude.{ℕ, ◌^◌, ◌-◌, ◌+◌, ◌==◌, ◌&&◌, nat_lt, nat_le, if◌then◌else◌, List, length, take, drop, position, Option, Some}
use Rattle.std.specs.Prelude.{None, Result, Ok, Err}
use Rattle.std.specs.List.{list_all, slice_split}
use Rattle.std.specs.Char.{is_ascii_digit}
use Rattle.std.specs.Str.Parse.{digits_value}
use Rattle.hex.specs.Hex.{decode_of}
use Rattle.hex.specs.declared.error.FromHexError.{FromHexError}
use Rattle.dcc_octets.specs.Names.{is_short}
use Rattle.dcc_tariff.specs.declared.limits.TheConstants.{LAST_SECOND}
use Rattle.dcc_act.specs.Subs.{SubView, is_sub}

-- one step after another, up to the first step that returns nothing
infixl 10 ◌>>=◌
abbrev pub ◌>>=◌ : {A B : Type 0} → Option A → (A → Option B) → Option B
(Some x) >>= f = f x
None >>= f = None

-- the lines of a text: the parts between its line feeds
abbrev pub lines_of : List ℕ → List (List ℕ)
lines_of text = slice_split (λ octet. octet == 10) text

-- the words of a line: the parts between its spaces
abbrev pub words_of : List ℕ → List (List ℕ)
words_of line = slice_split (λ octet. octet == 32) line

-- a number up to a limit, in decimal digits
unfoldable pub number : ℕ → List ℕ → Option ℕ
number limit word =
    if (nat_lt 0 (length word) && list_all is_ascii_digit word) && nat_le (digits_value 10 word) limit
    then Some (digits_value 10 word)
    else None

-- the number of a peer
abbrev pub peer : List ℕ → Option ℕ
peer word = number (2 ^ 32 - 1) word

-- a ticket, or an amount in minor units
abbrev pub any_u64 : List ℕ → Option ℕ
any_u64 word = number (2 ^ 64 - 1) word

-- a moment, in seconds since 1970-01-01T00:00:00Z
abbrev pub moment : List ℕ → Option ℕ
moment word = number LAST_SECOND word

-- a host's name: any word of 1 to 255 octets
abbrev pub host : List ℕ → Option (List ℕ)
host word = if is_short word then Some word else None

-- octets of a message: 1 to 65,536
abbrev pub sized : Result (List ℕ) FromHexError → Option (List ℕ)
sized (Ok octets) = if nat_le 1 (length octets) && nat_le (length octets) 65_536 then Some octets else None
sized (Err fault) = None

-- octets in hexadecimal digits of either case
unfoldable pub hex_octets : List ℕ → Option (List ℕ)
hex_octets word = sized (decode_of word)

-- the subscriber of a type and data: a known type, and 1 to 64 octets of visible ASCII
unfoldable pub known_sub : List ℕ → ℕ → Option SubView
known_sub name kind = if is_sub kind name then Some (record { kind = kind; name = name }) else None

-- a subscriber: its type and its data, on the two sides of the word's first colon
unfoldable pub sub : List ℕ → Option SubView
sub word = do
  colon ← position (λ octet. octet == 58) word
  kind ← number 255 (take colon word)
  known_sub (drop (colon + 1) word) kind
