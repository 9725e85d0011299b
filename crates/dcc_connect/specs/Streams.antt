-- The content of a stream that is read: its messages up to the first fault, and this fault.
use Rattle.std.specs.Prelude.{◌≡◌, ℕ, List, [], ◌∷◌, ◌++◌, Option, Some, None, Result, Ok, Err}
use Rattle.std.specs.List.{FoldsTo}
use Rattle.std.specs.Option.{option_map}
use Rattle.dcc_message.specs.HeaderView.{HeaderView}
use Rattle.dcc_message.specs.Headers.{header_of}
use Rattle.dcc_message.specs.Streams.{messages, rest, fault_at}
use Rattle.dcc_message.specs.declared.header.HeaderFault.{HeaderFault}
use Rattle.dcc_message.specs.declared.header.HeaderFault.TheVariants.{Length}

-- the fault for which a message's header can't be read
abbrev pub fault_in_header : Result HeaderView HeaderFault → Option HeaderFault
fault_in_header (Ok header) = None
fault_in_header (Err fault) = Some fault

abbrev pub fault_of_message : List ℕ → Option HeaderFault
fault_of_message message = fault_in_header (header_of message)

-- the messages before the first message whose header can't be read
abbrev pub before_fault : List (List ℕ) → List (List ℕ)
before_fault [] = []
before_fault (message ∷ later) = elim (fault_of_message message) [ Some fault ↦ [] | None ↦ message ∷ before_fault later ]

-- the first fault of a message, or otherwise the fault behind all messages
abbrev pub first_fault : List (List ℕ) → Option HeaderFault → Option HeaderFault
first_fault [] behind = behind
first_fault (message ∷ later) behind = elim (fault_of_message message) [ Some fault ↦ Some fault | None ↦ first_fault later behind ]

-- the messages of a stream that are heard, and the fault that ends them: a header that can't be read, or a length that no message has
abbrev pub heard : List ℕ → List (List ℕ)
heard stream = before_fault (messages stream)

abbrev pub stream_fault : List ℕ → Option HeaderFault
stream_fault stream = first_fault (messages stream) (option_map Length (fault_at (rest stream)))

-- `stays` and `closes` are the relations of one message that is passed on
module _ {S : Type 0} where
  -- a stream without a fault: all its messages were passed on, one after another
  abbrev pub PassesAll : (S → List ℕ → S → Type 0) → List ℕ → S → S → Type 0
  PassesAll stays stream s t = (stream_fault stream ≡ None) × FoldsTo stays s (messages stream) t

  -- a stream with a fault: the messages before the fault were passed on
  abbrev pub PassesBefore : (S → List ℕ → S → Type 0) → HeaderFault → List ℕ → S → S → Type 0
  PassesBefore stays fault stream s t = (stream_fault stream ≡ Some fault) × FoldsTo stays s (heard stream) t

  -- the first messages were passed on, up to and including a message behind which none was
  abbrev pub PassesUpTo : (stays closes : S → List ℕ → S → Type 0) → List ℕ → S → S → Type 0
  PassesUpTo stays closes stream s t =
      (front : List (List ℕ)) × (last : List ℕ) × (later : List (List ℕ)) × (u : S)
      × (heard stream ≡ front ++ last ∷ later) × FoldsTo stays s front u × closes u last t

  -- the messages of a beginning were passed on: memory was refused for the piece behind it
  abbrev pub PassesBeginning : (S → List ℕ → S → Type 0) → List ℕ → S → S → Type 0
  PassesBeginning stays stream s t = (begun piece : List ℕ) × (stream ≡ begun ++ piece) × PassesAll stays begun s t
