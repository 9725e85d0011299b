-- The events of a script.
use Rattle.std.specs.Prelude.{◌≡◌, ℕ, ◌+◌, Bool, true, ◌==◌, if◌then◌else◌, List, [], ◌∷◌, bytes_eq, codes, Option, Some, None, Result, Ok}
use Rattle.std.specs.Prelude.{Err}
use Rattle.dcc_engine.specs.declared.event.Event.{Event}
use Rattle.dcc_engine.specs.declared.event.Event.TheVariants.{Connect, Disconnect, Message, TopUp, Sweep}
use Rattle.dcc_replay.specs.declared.script.ScriptFault.{ScriptFault}
use Rattle.dcc_replay.specs.declared.script.ScriptFault.TheVariants.{Line, Memory}
use Rattle.dcc_words.specs.Words.{◌>>=◌, lines_of, words_of, peer, any_u64, moment, host, hex_octets, sub}

-- `connect P`
unfoldable pub connected : List (List ℕ) → Option Event
connected (p ∷ []) = do
  id ← peer p
  Some (Connect id None)
connected _ = None

-- `open P HOST`
unfoldable pub opened : List (List ℕ) → Option Event
opened (p ∷ h ∷ []) = do
  id ← peer p
  name ← host h
  Some (Connect id (Some name))
opened _ = None

-- `disconnect P`
unfoldable pub disconnected : List (List ℕ) → Option Event
disconnected (p ∷ []) = do
  id ← peer p
  Some (Disconnect id)
disconnected _ = None

-- `message P MOMENT HEX`
unfoldable pub arrived : List (List ℕ) → Option Event
arrived (p ∷ m ∷ x ∷ []) = do
  id ← peer p
  when ← moment m
  octets ← hex_octets x
  Some (Message id when octets)
arrived _ = None

-- `topup MOMENT SUB TICKET AMOUNT`
unfoldable pub topped_up : List (List ℕ) → Option Event
topped_up (m ∷ s ∷ t ∷ a ∷ []) = do
  when ← moment m
  who ← sub s
  ticket ← any_u64 t
  amount ← any_u64 a
  Some (TopUp when who ticket amount)
topped_up _ = None

-- `sweep MOMENT`
unfoldable pub swept : List (List ℕ) → Option Event
swept (m ∷ []) = do
  when ← moment m
  Some (Sweep when)
swept _ = None

-- the event of a line's words, if they have one of the six forms
unfoldable pub event_of : List (List ℕ) → Option Event
event_of [] = None
event_of (verb ∷ words) =
    if bytes_eq verb (codes "connect") then connected words
    else (if bytes_eq verb (codes "open") then opened words
    else (if bytes_eq verb (codes "disconnect") then disconnected words
    else (if bytes_eq verb (codes "message") then arrived words
    else (if bytes_eq verb (codes "topup") then topped_up words
    else (if bytes_eq verb (codes "sweep") then swept words else None)))))

-- a line without an event: it is empty, or begins with #
abbrev pub is_remark : List ℕ → Bool
is_remark [] = true
is_remark (octet ∷ line) = octet == 35

-- the event of line n, before the events of the later lines; n is the fault of a line that has none of the forms
abbrev pub then_later : ℕ → Option Event → Result (List Event) ℕ → Result (List Event) ℕ
then_later n None later = Err n
then_later n (Some event) (Ok events) = Ok (event ∷ events)
then_later n (Some event) (Err line) = Err line

-- the events of lines of which the first has the number n, or the number of the first line with a fault
unfoldable pub events_from : ℕ → List (List ℕ) → Result (List Event) ℕ
events_from n [] = Ok []
events_from n (line ∷ lines) =
    if is_remark line then events_from (n + 1) lines
    else then_later n (event_of (words_of line)) (events_from (n + 1) lines)

-- the events of a script, or the number of its first line with a fault
unfoldable pub script_of : List ℕ → Result (List Event) ℕ
script_of text = events_from 1 (lines_of text)

-- the faults of a script's reading: the line that the definition returns, or want of memory
abbrev pub IsFaultOf : Result (List Event) ℕ → ScriptFault → Type 0
IsFaultOf script (Line n) = script ≡ Err n
IsFaultOf script Memory = Unit {0}
