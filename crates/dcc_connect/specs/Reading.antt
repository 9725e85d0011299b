-- The reader's side of a connection.
use Rattle.std.specs.Prelude.{◌≡◌, ℕ, ◌≤◌, ◌<◌, List, length, Option}
use Rattle.std.specs.List.{AllByRecursion, concat}
use Rattle.std.specs.Io.KnownBytes.{Consumes, IsAtEnd}
use Rattle.dcc_connect.specs.declared.handing.Handed.{Handed}
use Rattle.dcc_connect.specs.declared.handing.Handed.TheVariants.{Stays, Closes}
use Rattle.dcc_connect.specs.declared.fault.ConnectFault.TheVariants.{Read, Write, TooManyTurns, Header, Memory}
use Rattle.dcc_connect.specs.declared.fault.ConnectionEnd.{ConnectionEnd}
use Rattle.dcc_connect.specs.declared.fault.ConnectionEnd.TheVariants.{End, Closed, Fault}
use Rattle.dcc_connect.specs.Streams.{PassesAll, PassesBefore, PassesUpTo, PassesBeginning}

module _ {S : Type 0} (hands : S → ℕ → List ℕ → Handed → S → Type 0) where
  -- a message was handed on at some moment, and the connection stays behind it
  abbrev pub HandsOn : S → List ℕ → S → Type 0
  HandsOn s message t = (moment : ℕ) × hands s moment message Stays t

  -- a message was handed on at some moment, and the connection closes behind it
  abbrev pub HandsLast : S → List ℕ → S → Type 0
  HandsLast s message t = (moment : ℕ) × hands s moment message Closes t

  -- the messages that were handed on, of the octets that were read
  abbrev pub Hands : ConnectionEnd → List ℕ → S → S → Type 0
  Hands End read s t = PassesAll HandsOn read s t
  Hands Closed read s t = PassesUpTo HandsOn HandsLast read s t
  Hands (Fault Read) read s t = PassesAll HandsOn read s t
  Hands (Fault TooManyTurns) read s t = PassesAll HandsOn read s t
  Hands (Fault (Header fault)) read s t = PassesBefore HandsOn fault read s t
  Hands (Fault Memory) read s t = PassesBeginning HandsOn read s t
  Hands (Fault (Write written)) read s t = ⊥

-- pieces were read, none of them empty, and the reader gave exactly their octets
abbrev pub ReadsPieces : Option (List ℕ) → Option (List ℕ) → List (List ℕ) → Type 0
ReadsPieces before after pieces = Consumes before after (concat pieces) × AllByRecursion (λ piece. 0 < length piece) pieces

-- each piece is a turn, and so is the call that ended or failed; the bound is a fault only if it was used up
abbrev pub UsesTurns : ConnectionEnd → ℕ → ℕ → Type 0
UsesTurns End turns pieces = pieces < turns
UsesTurns Closed turns pieces = pieces ≤ turns
UsesTurns (Fault Read) turns pieces = pieces < turns
UsesTurns (Fault TooManyTurns) turns pieces = pieces ≡ turns
UsesTurns (Fault (Header fault)) turns pieces = pieces ≤ turns
UsesTurns (Fault Memory) turns pieces = pieces ≤ turns
UsesTurns (Fault (Write written)) turns pieces = ⊥

-- if the reader ended, nothing is left to be read
abbrev pub EndsAtEnd : ConnectionEnd → Option (List ℕ) → Type 0
EndsAtEnd End after = IsAtEnd after
EndsAtEnd Closed after = Unit {0}
EndsAtEnd (Fault fault) after = Unit {0}

-- the whole side: pieces were read, and messages of their octets were handed on
abbrev pub ReadsAndHands : {S : Type 0} → (S → ℕ → List ℕ → Handed → S → Type 0) → ConnectionEnd → ℕ → Option (List ℕ) → Option (List ℕ) → S → S → Type 0
ReadsAndHands hands end turns before after s t =
    (pieces : List (List ℕ)) × ReadsPieces before after pieces × UsesTurns end turns (length pieces) × Hands hands end (concat pieces) s t
