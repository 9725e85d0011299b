use Rattle.std.proofs.Common.{rules, ap, codes, option_map, sym, ◌≡◌, ◌∙◌, None}
use Rattle.clap.specs.Words.{first_of, found_of, rows_of}
use Rattle.dcc_program.proofs.CommandLineLemmas.{no_replay}
use Rattle.dcc_program.proofs.command_line.replay_of.Goals as goal

pub returns-in_err-text_of : goal.returns-in_err-text_of
returns-in_err-text_of c =
    let none : c.from_residual.result ≡ None = search rules in
    let missing : c.text_of.result ≡ None = search rules in
    let word : first_of (codes "PLAN") (rows_of (found_of c.args.found.now)) ≡ None = sym c.text_of.ensures ∙ ap (option_map (λ s. s.now)) missing in
    rw none (no_replay (rows_of (found_of c.args.found.now)) word)
