-- The answering of held messages.
use Rattle.std.specs.Prelude.{◌≡◌, ℕ, ◌+◌, ◌≤◌, ◌<◌, List, [], ◌++◌, length, take, Option, Result, Ok, Err}
use Rattle.std.specs.Io.KnownBytes.{Appends}
use Rattle.dcc_message.specs.Streams.{rest}
use Rattle.dcc_base.specs.declared.reply.Reply.{Reply}
use Rattle.dcc_connect.specs.declared.fault.ConnectFault.TheVariants.{Read, Write, TooManyTurns, Header, Memory}
use Rattle.dcc_connect.specs.declared.fault.ConnectionEnd.{ConnectionEnd}
use Rattle.dcc_connect.specs.declared.fault.ConnectionEnd.TheVariants.{End, Closed, Fault}
use Rattle.dcc_connect.specs.Streams.{PassesAll, PassesBefore, PassesUpTo}
use Rattle.dcc_connect.specs.Serving.{Answers, AnswersOn, AnswersLast}
use Rattle.dcc_connect.specs.inner.Sends.{Counts}
use Rattle.dcc_connect.specs.inner.Steps.{HasPassed, HasRead}

module _ {A : Type 0} (answers : A → ℕ → List ℕ → Reply → A → Type 0) where
  -- all due octets went out
  abbrev pub AllSent : (due out : List ℕ) → Counts → Counts → Type 0
  AllSent due out old new = (out ≡ due) × (old.left ≤ new.left + length out)

  -- the messages that were answered, whatever was due before, and the octets that went out
  abbrev pub Answered : Result (Unit {0}) ConnectionEnd → List ℕ → List ℕ → A → A → (due out : List ℕ) → Counts → Counts → Type 0
  Answered (Ok done) held now a b due out old new =
      ((before : List ℕ) → PassesAll (AnswersOn answers) held (a, before) (b, before ++ due)) × (now ≡ rest held) × AllSent due out old new
  Answered (Err Closed) held now a b due out old new =
      ((before : List ℕ) → PassesUpTo (AnswersOn answers) (AnswersLast answers) held (a, before) (b, before ++ due)) × AllSent due out old new
  Answered (Err (Fault (Header fault))) held now a b due out old new =
      ((before : List ℕ) → PassesBefore (AnswersOn answers) fault held (a, before) (b, before ++ due)) × AllSent due out old new
  Answered (Err (Fault (Write written))) held now a b due out old new =
      ((before : List ℕ) → PassesUpTo (AnswersOn answers) (Answers answers) held (a, before) (b, before ++ due))
      × (length out < length due) × (out ≡ take (length out) due) × (written ≡ new.written) × (new.left < old.left)
  Answered (Err (Fault TooManyTurns)) held now a b due out old new =
      ((before : List ℕ) → PassesUpTo (AnswersOn answers) (Answers answers) held (a, before) (b, before ++ due))
      × (length out < length due) × (out ≡ take (length out) due) × (old.left ≤ length out)
  Answered (Err End) held now a b due out old new = ⊥
  Answered (Err (Fault Read)) held now a b due out old new = ⊥
  Answered (Err (Fault Memory)) held now a b due out old new = ⊥

  abbrev pub AnswersReady : Result (Unit {0}) ConnectionEnd → List ℕ → List ℕ → A → A → Option (List ℕ) → Option (List ℕ) → Counts → Counts → Type 0
  AnswersReady result held now a b sent after old new =
      (due out : List ℕ) × Appends sent after out × (new.written ≡ old.written + length out) × (new.left ≤ old.left)
      × Answered result held now a b due out old new

  -- some messages were answered, and all octets that were due for them went out
  pub record HasAnswered (held now : List ℕ) (a b : A) (sent after : Option (List ℕ)) (old new : Counts) : Type 0 where
    pub due : List ℕ
    pub passed : (before : List ℕ) → HasPassed (AnswersOn answers) held now (a, before) (b, before ++ due)
    pub out : Appends sent after due
    pub written : new.written ≡ old.written + length due
    pub fewer : new.left ≤ old.left
    pub turned : old.left ≤ new.left + length due

  -- the state of a connection: pieces were read, and the answers to their messages went out
  pub record HasServed (turn turns : ℕ) (before now : Option (List ℕ)) (sent after : Option (List ℕ)) (held : List ℕ) (a b : A) (counts : Counts) : Type 0 where
    pub due : List ℕ
    pub reading : HasRead (AnswersOn answers) turn before now held (a, []) (b, due)
    pub out : Appends sent after due
    pub written : counts.written ≡ length due
    pub turned : turns ≤ counts.left + turn + length due
    pub spent : turn + counts.left ≤ turns
