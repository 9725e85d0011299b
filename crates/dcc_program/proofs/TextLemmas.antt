-- What is promised of a run that prints a text, whichever text it is.
use Rattle.std.proofs.Common.{◌≡◌, ◌⊎◌, inr, ℕ, List, Option, Result, Ok, Err, IfErr}
use Rattle.std.specs.Prelude.{◌≢◌}
use Rattle.std.specs.Io.KnownBytes.{Keeps}
use Rattle.std.proofs.KnownBytes.{Keeps-refl}
use Rattle.clap.specs.Words.{Text}
use Rattle.dcc_program.specs.CommandLines.{Asks}
use Rattle.dcc_program.specs.Runs.{IsBegun, IsBeforeScript, IsRunFailure}
use Rattle.dcc_program.specs.declared.command_line.Task.{Task}
use Rattle.dcc_program.specs.declared.failure.Failure.{Failure}
use Rattle.dcc_program.specs.declared.failure.Failure.TheVariants.{Io}

pub text_failure : {T : Type 0} (words : List Text) (script : Option (List ℕ)) (task : Task) (r : Result T Failure) → Asks words task
    → IfErr r (λ failure. failure ≡ Io) → IfErr r (IsRunFailure words script)
text_failure words script task (Ok done) asks io = tt
text_failure words script task (Err failure) asks io = rw io (task, asks)

pub text_order : {T : Type 0} (script : Option (List ℕ)) (r : Result T Failure) → IfErr r (λ failure. IsBeforeScript failure → Keeps script script)
text_order script (Ok done) = tt
text_order script (Err failure) = λ before. Keeps-refl script

pub text_silent : {T : Type 0} (old new : Option (List ℕ)) (r : Result T Failure) → IfErr r (λ failure. failure ≡ Io)
    → IfErr r (λ failure. failure ≢ Io → Keeps old new)
text_silent old new (Ok done) io = tt
text_silent old new (Err failure) io = λ other. absurd (other io)

pub text_part : {T : Type 0} (words : List Text) (script old new : Option (List ℕ)) (task : Task) (r : Result T Failure) → Asks words task
    → IfErr r (λ _. IsBegun task script old new)
    → IfErr r (λ failure. failure ≡ Io → Keeps old new ⊎ ((other : Task) × Asks words other × IsBegun other script old new))
text_part words script old new task (Ok done) asks begun = tt
text_part words script old new task (Err failure) asks begun = λ io. inr (task, asks, begun)
