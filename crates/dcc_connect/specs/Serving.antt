-- A whole connection that is served by one thread.
use Rattle.std.specs.Prelude.{◌≡◌, ℕ, ◌+◌, ◌≤◌, ◌<◌, ◌⊎◌, true, false, List, [], ◌++◌, length, take, Option}
use Rattle.std.specs.List.{concat}
use Rattle.std.specs.Io.KnownBytes.{Appends}
use mathlib.Core.List.{IsPrefix}
use Rattle.dcc_base.specs.declared.reply.Reply.{Reply}
use Rattle.dcc_connect.specs.declared.fault.ConnectFault.TheVariants.{Read, Write, TooManyTurns, Header, Memory}
use Rattle.dcc_connect.specs.declared.fault.ConnectionEnd.{ConnectionEnd}
use Rattle.dcc_connect.specs.declared.fault.ConnectionEnd.TheVariants.{End, Closed, Fault}
use Rattle.dcc_connect.specs.Streams.{PassesAll, PassesBefore, PassesUpTo, PassesBeginning}
use Rattle.dcc_connect.specs.Reading.{ReadsPieces}

module _ {A : Type 0} (answers : A → ℕ → List ℕ → Reply → A → Type 0) where
  -- a message was answered at some moment, and the answer's octets are due behind the octets before: a step of the answerer and of the due octets
  abbrev pub Answers : A × List ℕ → List ℕ → A × List ℕ → Type 0
  Answers s message t = (moment : ℕ) × (reply : Reply) × answers s.0 moment message reply t.0 × (t.1 ≡ s.1 ++ reply.octets)

  -- a message was answered so, and the connection stays behind it
  abbrev pub AnswersOn : A × List ℕ → List ℕ → A × List ℕ → Type 0
  AnswersOn s message t =
      (moment : ℕ) × (reply : Reply) × answers s.0 moment message reply t.0 × (t.1 ≡ s.1 ++ reply.octets) × (reply.close ≡ false)

  -- a message was answered so, and the connection closes behind it
  abbrev pub AnswersLast : A × List ℕ → List ℕ → A × List ℕ → Type 0
  AnswersLast s message t =
      (moment : ℕ) × (reply : Reply) × answers s.0 moment message reply t.0 × (t.1 ≡ s.1 ++ reply.octets) × (reply.close ≡ true)

  -- the messages that were answered, of the octets that were read; the octets that are due for them; and the octets that went out
  abbrev pub Serves : ConnectionEnd → List ℕ → A → A → (due out : List ℕ) → Type 0
  Serves End read a b due out = PassesAll AnswersOn read (a, []) (b, due) × (out ≡ due)
  Serves Closed read a b due out = PassesUpTo AnswersOn AnswersLast read (a, []) (b, due) × (out ≡ due)
  Serves (Fault Read) read a b due out = PassesAll AnswersOn read (a, []) (b, due) × (out ≡ due)
  Serves (Fault (Header fault)) read a b due out = PassesBefore AnswersOn fault read (a, []) (b, due) × (out ≡ due)
  Serves (Fault Memory) read a b due out = PassesBeginning AnswersOn read (a, []) (b, due) × (out ≡ due)
  Serves (Fault (Write written)) read a b due out =
      PassesUpTo AnswersOn Answers read (a, []) (b, due) × (written < length due) × (out ≡ take written due)
  Serves (Fault TooManyTurns) read a b due out =
      (PassesAll AnswersOn read (a, []) (b, due) × (out ≡ due)) ⊎ (PassesUpTo AnswersOn Answers read (a, []) (b, due) × IsPrefix out due)

-- each piece is a turn, and so is the call that ended or failed; each other turn is a write, which takes at least one octet
abbrev pub SharesTurns : ConnectionEnd → (turns pieces written : ℕ) → Type 0
SharesTurns End turns pieces written = pieces < turns
SharesTurns Closed turns pieces written = pieces ≤ turns
SharesTurns (Fault Read) turns pieces written = pieces < turns
SharesTurns (Fault TooManyTurns) turns pieces written = (pieces ≤ turns) × (turns ≤ pieces + written)
SharesTurns (Fault (Header fault)) turns pieces written = pieces ≤ turns
SharesTurns (Fault Memory) turns pieces written = pieces ≤ turns
SharesTurns (Fault (Write count)) turns pieces written = pieces < turns

-- pieces were read, messages of their octets were answered, and exactly these of the due octets went out
abbrev pub ReadsAndServes : {A : Type 0} → (A → ℕ → List ℕ → Reply → A → Type 0) → ConnectionEnd → ℕ → (before after : Option (List ℕ)) → (sent now : Option (List ℕ)) → A → A → Type 0
ReadsAndServes answers end turns before after sent now a b =
    (pieces : List (List ℕ)) × (due out : List ℕ) × ReadsPieces before after pieces × Appends sent now out
    × SharesTurns end turns (length pieces) (length out) × Serves answers end (concat pieces) a b due out
