use Rattle.std.proofs.Common.{ap, codes, refl, ◌≡◌, ◌∙◌}
use Rattle.std.proofs.lemmas.Result.{IfOk-weaker}
use Rattle.clap.specs.Simple.{app_of_fields}
use Rattle.clap.specs.Words.{App, app_of, new_app, with_subcommand}
use Rattle.dcc_program.specs.CommandLines.{replay_command, topup_command, ledger_command, balance_command, serve_command, decode_command, help_command, with_version, needing_command, without_help_command, dcc_command}
use Rattle.dcc_program.proofs.command_line.command.Goals as goal

pub returns : goal.returns
unfolding dcc_command
returns c =
    let named : app_of c.version.result ≡ with_version (app_of c.new.result) = ap app_of_fields c.version.ensures in
    let needing : app_of c.subcommand_required.result ≡ needing_command (app_of c.version.result) = ap app_of_fields c.subcommand_required.ensures in
    let without : app_of c.disable_help_subcommand-program.result ≡ without_help_command (app_of c.subcommand_required.result) =
    ap app_of_fields c.disable_help_subcommand-program.ensures in
    let top_is : app_of c.disable_help_subcommand-program.result ≡ without_help_command (needing_command (with_version (new_app (codes "dcc")))) =
    without ∙ ap without_help_command (needing ∙ ap needing_command (named ∙ ap with_version c.new.ensures.app)) in
    let one : app_of c.in_ok-with_replay.with_replay ≡ _ = c.in_ok-with_replay.ensures replay_command c.replay_command.ensures refl
    ∙ ap (λ (a : App). with_subcommand a replay_command.top) top_is in
    let two : app_of c.in_ok-with_topup.with_topup ≡ _ = c.in_ok-with_topup.ensures topup_command c.topup_command.ensures refl
    ∙ ap (λ (a : App). with_subcommand a topup_command.top) one in
    let three : app_of c.in_ok-with_ledger.with_ledger ≡ _ = c.in_ok-with_ledger.ensures ledger_command c.store_command.ensures refl
    ∙ ap (λ (a : App). with_subcommand a ledger_command.top) two in
    let balanced : app_of c.in_ok-with_balance.with_balance ≡ _ = c.in_ok-with_balance.ensures balance_command c.store_command-2.ensures refl
    ∙ ap (λ (a : App). with_subcommand a balance_command.top) three in
    let four : app_of c.in_ok-with_serve.with_serve ≡ _ = c.in_ok-with_serve.ensures serve_command c.serve_command.ensures refl
    ∙ ap (λ (a : App). with_subcommand a serve_command.top) balanced in
    let five : app_of c.in_ok-with_decode.with_decode ≡ _ = c.in_ok-with_decode.ensures decode_command c.new-2.ensures.app refl
    ∙ ap (λ (a : App). with_subcommand a decode_command.top) four in
    IfOk-weaker c.with_command-7.result _ _
    (λ command added. added help_command c.new-3.ensures.app refl ∙ ap (λ (a : App). with_subcommand a help_command.top) five) c.with_command-7.ensures
