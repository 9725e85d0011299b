use Rattle.std.proofs.Common.{rules, ◌≡◌, ◌∙◌, sym, None}
use Rattle.clap.specs.Words.{found_of, rows_of}
use Rattle.dcc_program.specs.CommandLines.{sub_in}
use Rattle.dcc_program.proofs.CommandLineLemmas.{no_page, none_or_some}
use Rattle.dcc_program.proofs.command_line.page_of.Goals as goal

pub returns-in_err-place_of : goal.returns-in_err-place_of
returns-in_err-place_of c =
    let none : c.from_residual.result ≡ None = search rules in
    let missing : c.place_of.result ≡ None = search rules in
    rw none (no_page c.args.page (rows_of (found_of c.args.found.now)) (λ place of at given. c.place_of.ensures.none missing place at))

pub returns-in_err-sub_of : goal.returns-in_err-sub_of
returns-in_err-sub_of c =
    let none : c.from_residual-in_err-sub_of.result ≡ None = search rules in
    let missing : c.sub_of.result ≡ None = search rules in
    let said : sub_in (rows_of (found_of c.args.found.now)) ≡ None = sym c.sub_of.ensures ∙ missing in
    rw none (no_page c.args.page (rows_of (found_of c.args.found.now)) (λ place of at given. none_or_some _ _ said given))
