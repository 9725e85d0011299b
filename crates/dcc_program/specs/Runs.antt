-- The program's work.
use Rattle.std.specs.Prelude.{⊤, ◌≡◌, ℕ, List, Option, None, Err, IfSome, take}
use Rattle.std.specs.Io.KnownBytes.{Appends, Keeps}
use Rattle.clap.specs.Words.{Text}
use Rattle.dcc_tariff.specs.Plans.{PlanView}
use Rattle.dcc_store.specs.Contents.{Content}
use Rattle.dcc_replay.specs.Scripts.{script_of}
use Rattle.dcc_replay.specs.Replays as replay
use Rattle.dcc_decode.specs.Decodings as decode
use Rattle.dcc_program.specs.declared.command_line.Task.{Task}
use Rattle.dcc_program.specs.declared.command_line.Task.TheVariants.{Replay, TopUp, Show, Decode, Help, Version}
use Rattle.dcc_program.specs.declared.help.TheConstants.{HELP, VERSION}
use Rattle.dcc_program.specs.declared.failure.Failure.{Failure}
use Rattle.dcc_program.specs.declared.failure.Failure.TheVariants.{Usage, Memory, Io, Plan, Store, Script, Close}
use Rattle.dcc_program.specs.CommandLines.{Asks, IsUnderPlan, IsOverStore, IsOverScript, IsNoUse}
use Rattle.dcc_program.specs.Stores.{IsTopUp, IsTopUpBegun, IsPage, IsPageBegun}
use Rattle.dcc_program.specs.Plans.{IsPlanFailure}

-- a task is done over the stores of a folder as the opening returns them, by its input before and after and its writer before and after. A task
-- without input reads nothing
abbrev pub IsDone : {R : Type 0} → (opens : List ℕ → PlanView → ℕ → R → Type 0) → (may_leave : R → Content → Type 0) → Task
    → (unread left old new : Option (List ℕ)) → Type 0
IsDone opens may_leave (Replay path) unread left old new = (plan : PlanView) × replay.IsWritten plan unread old new
IsDone opens may_leave (TopUp place ask) unread left old new = Keeps unread left × IsTopUp (opens place.folder.now) may_leave None ask old new
IsDone opens may_leave (Show page place sub) unread left old new =
    Keeps unread left × IsPage page (opens place.folder.now) may_leave None sub old new
IsDone opens may_leave Decode unread left old new = decode.IsWritten unread old new
IsDone opens may_leave Help unread left old new = Keeps unread left × Appends old new HELP.now
IsDone opens may_leave Version unread left old new = Keeps unread left × Appends old new VERSION.now

-- the first octets of a text are written
abbrev pub IsTextBegun : List ℕ → (old new : Option (List ℕ)) → Type 0
IsTextBegun text old new = (n : ℕ) × Appends old new (take n text)

-- the first octets of a task's output are written
abbrev pub IsBegun : Task → (unread old new : Option (List ℕ)) → Type 0
IsBegun (Replay path) unread old new = (plan : PlanView) × replay.IsBegun plan unread old new
IsBegun (TopUp place ask) unread old new = IsTopUpBegun None ask old new
IsBegun (Show page place sub) unread old new = IsPageBegun page None sub old new
IsBegun Decode unread old new = decode.IsBegun unread old new
IsBegun Help unread old new = IsTextBegun HELP.now old new
IsBegun Version unread old new = IsTextBegun VERSION.now old new

-- the failures that are reported before any of the script is read
abbrev pub IsBeforeScript : Failure → Type 0
IsBeforeScript Usage = ⊤
IsBeforeScript Memory = ⊥
IsBeforeScript Io = ⊥
IsBeforeScript (Plan number) = ⊤
IsBeforeScript (Store number) = ⊤
IsBeforeScript (Script line) = ⊥
IsBeforeScript (Close number) = ⊥

-- the failures of the program: usage if the words ask for nothing, and other failures, except memory, only if they ask for a task
abbrev pub IsRunFailure : List Text → Option (List ℕ) → Failure → Type 0
IsRunFailure words script Usage = IsNoUse words
IsRunFailure words script Memory = ⊤
IsRunFailure words script Io = (task : Task) × Asks words task
IsRunFailure words script (Plan number) = (task : Task) × Asks words task × IsUnderPlan task × IsPlanFailure None (Plan number)
IsRunFailure words script (Store number) = (task : Task) × Asks words task × IsOverStore task
IsRunFailure words script (Script line) = (task : Task) × Asks words task × IsOverScript task × IfSome script (λ text. script_of text ≡ Err line)
IsRunFailure words script (Close number) = ⊥
