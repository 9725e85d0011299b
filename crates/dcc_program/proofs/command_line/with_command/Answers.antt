use Rattle.std.proofs.Common.{ap, ◌≡◌, ◌∙◌}
use Rattle.std.proofs.lemmas.Result.{IfOk-weaker}
use Rattle.clap.specs.Words.{App, app_of, with_subcommand}
use Rattle.dcc_program.proofs.CommandLineLemmas.{plain_local}
use Rattle.dcc_program.proofs.command_line.with_command.Goals as goal

pub returns-in-Ok : goal.returns-in-Ok
returns-in-Ok c =
    IfOk-weaker c.subcommand.result _ _
    (λ given added app is plain.
    let made : app_of c.in-Ok.command ≡ app = rw c.in-Ok.is at is in
    added.shape (plain_local _ app made plain) ∙ ap (λ (a : App). with_subcommand (app_of c.args.program) a.top) made) c.subcommand.ensures
