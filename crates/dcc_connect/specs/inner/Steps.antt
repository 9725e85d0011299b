-- The steps of reading a stream.
use Rattle.std.specs.Prelude.{◌≡◌, ℕ, ◌<◌, true, false, List, [], ◌∷◌, ◌++◌, length, take, drop, Option, Some, None, Result, Ok, Err}
use Rattle.std.specs.List.{AllByRecursion, FoldsTo, concat}
use Rattle.std.specs.Io.KnownBytes.{Consumes, IsAtEnd}
use Rattle.dcc_message.specs.Streams.{length_field, begins_whole, messages, rest, fault_at}
use Rattle.dcc_connect.specs.declared.turns.Turn.{Turn}
use Rattle.dcc_connect.specs.declared.turns.Turn.TheVariants as turn
use Rattle.dcc_connect.specs.declared.fault.ConnectFault.{ConnectFault}
use Rattle.dcc_connect.specs.declared.fault.ConnectFault.TheVariants.{Read, Write, TooManyTurns, Header, Memory}
use Rattle.dcc_connect.specs.declared.fault.ConnectionEnd.{ConnectionEnd}
use Rattle.dcc_connect.specs.declared.fault.ConnectionEnd.TheVariants.{End, Closed, Fault}
use Rattle.dcc_connect.specs.Reading.{ReadsPieces}
use Rattle.dcc_connect.specs.Streams.{fault_of_message, heard, stream_fault, PassesAll, PassesBefore, PassesUpTo}

-- one turn of the reader: the octets that it gave, and the octets that are held then
abbrev pub TakesPiece : Result Turn ConnectFault → Option (List ℕ) → Option (List ℕ) → List ℕ → List ℕ → Type 0
TakesPiece (Ok turn.Fed) before after held now = (piece : List ℕ) × (0 < length piece) × Consumes before after piece × (now ≡ held ++ piece)
TakesPiece (Ok turn.End) before after held now = Consumes before after [] × IsAtEnd after
TakesPiece (Err Read) before after held now = Consumes before after []
TakesPiece (Err Memory) before after held now = (piece : List ℕ) × (0 < length piece) × Consumes before after piece
TakesPiece (Err (Write written)) before after held now = ⊥
TakesPiece (Err TooManyTurns) before after held now = ⊥
TakesPiece (Err (Header fault)) before after held now = ⊥

-- the laws of messages in streams
pub record StreamLaws : Type 0 where
  pub append : (a b : List ℕ) → messages (a ++ b) ≡ messages a ++ messages (rest a ++ b)
  pub append_rest : (a b : List ℕ) → rest (a ++ b) ≡ rest (rest a ++ b)
  pub first : (s : List ℕ) → begins_whole s ≡ true → messages s ≡ take (length_field s) s ∷ messages (drop (length_field s) s)
  pub first_rest : (s : List ℕ) → begins_whole s ≡ true → rest s ≡ rest (drop (length_field s) s)
  pub none : (s : List ℕ) → begins_whole s ≡ false → messages s ≡ []
  pub none_rest : (s : List ℕ) → begins_whole s ≡ false → rest s ≡ s

-- the next message, whose header can be read; or the stream's fault; or no message
abbrev pub Nexts : Result (Option (List ℕ)) ConnectFault → List ℕ → List ℕ → Type 0
Nexts (Ok (Some message)) held now = (fault_of_message message ≡ None) × (messages held ≡ message ∷ messages now) × (rest held ≡ rest now)
Nexts (Ok None) held now = (messages held ≡ []) × (rest held ≡ held) × (fault_at held ≡ None) × (now ≡ held)
Nexts (Err (Header fault)) held now = (heard held ≡ []) × (stream_fault held ≡ Some fault)
Nexts (Err Read) held now = ⊥
Nexts (Err Memory) held now = ⊥
Nexts (Err (Write written)) held now = ⊥
Nexts (Err TooManyTurns) held now = ⊥

abbrev pub AreSound : List (List ℕ) → Type 0
AreSound messages = AllByRecursion (λ message. fault_of_message message ≡ None) messages

-- some messages of a stream were passed on, and the held octets have the others
pub record HasPassed {S : Type 0} (stays : S → List ℕ → S → Type 0) (stream held : List ℕ) (s t : S) : Type 0 where
  pub front : List (List ℕ)
  pub sound : AreSound front
  pub others : messages stream ≡ front ++ messages held
  pub left : rest stream ≡ rest held
  pub passed : FoldsTo stays s front t

-- the whole messages that are held were passed on: all, or those up to an end
abbrev pub HandsReady : {S : Type 0} → (stays closes : S → List ℕ → S → Type 0) → Result (Unit {0}) ConnectionEnd → List ℕ → List ℕ → S → S → Type 0
HandsReady stays closes (Ok done) held now s t = PassesAll stays held s t × (now ≡ rest held)
HandsReady stays closes (Err Closed) held now s t = PassesUpTo stays closes held s t
HandsReady stays closes (Err (Fault (Header fault))) held now s t = PassesBefore stays fault held s t
HandsReady stays closes (Err End) held now s t = ⊥
HandsReady stays closes (Err (Fault Read)) held now s t = ⊥
HandsReady stays closes (Err (Fault Memory)) held now s t = ⊥
HandsReady stays closes (Err (Fault (Write written))) held now s t = ⊥
HandsReady stays closes (Err (Fault TooManyTurns)) held now s t = ⊥

-- so many pieces were read, and the held octets have the messages that weren't passed on
pub record HasFed {S : Type 0} (stays : S → List ℕ → S → Type 0) (count : ℕ) (before now : Option (List ℕ)) (held : List ℕ) (s t : S) : Type 0 where
  pub pieces : List (List ℕ)
  pub given : ReadsPieces before now pieces
  pub counted : length pieces ≡ count
  pub passed : HasPassed stays (concat pieces) held s t

-- so many pieces were read, and all whole messages of them were passed on
pub record HasRead {S : Type 0} (stays : S → List ℕ → S → Type 0) (count : ℕ) (before now : Option (List ℕ)) (held : List ℕ) (s t : S) : Type 0 where
  pub pieces : List (List ℕ)
  pub given : ReadsPieces before now pieces
  pub counted : length pieces ≡ count
  pub passed : PassesAll stays (concat pieces) s t
  pub left : held ≡ rest (concat pieces)
