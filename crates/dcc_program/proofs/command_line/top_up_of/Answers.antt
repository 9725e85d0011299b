use Rattle.std.proofs.Common.{rules, ◌≡◌, None}
use Rattle.clap.specs.Words.{found_of, rows_of}
use Rattle.dcc_program.proofs.CommandLineLemmas.{no_top_up}
use Rattle.dcc_program.proofs.command_line.top_up_of.Goals as goal

pub returns-in_err-place_of : goal.returns-in_err-place_of
returns-in_err-place_of c =
    let none : c.from_residual.result ≡ None = search rules in
    let missing : c.place_of.result ≡ None = search rules in
    rw none (no_top_up (rows_of (found_of c.args.found.now)) (λ place ask at given. c.place_of.ensures.none missing place at))

pub returns-in_err-ask_of : goal.returns-in_err-ask_of
returns-in_err-ask_of c =
    let none : c.from_residual-in_err-ask_of.result ≡ None = search rules in
    let missing : c.ask_of.result ≡ None = search rules in
    rw none (no_top_up (rows_of (found_of c.args.found.now)) (λ place ask at given. c.ask_of.ensures.none missing ask given))
