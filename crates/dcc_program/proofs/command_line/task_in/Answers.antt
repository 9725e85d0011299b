use Rattle.std.proofs.Common.{rules, ◌≡◌, None}
use Rattle.clap.specs.Words.{found_of, rows_of, subcommand_rows_of}
use Rattle.dcc_program.proofs.CommandLineLemmas.{named_rows, unnamed_rows, task_of_rows, no_task_of_rows}
use Rattle.dcc_program.proofs.command_line.task_in.Goals as goal

pub returns-in_err-name-clause-none : goal.returns-in_err-name-clause-none
returns-in_err-name-clause-none c =
    let none : c.subcommand.result ≡ None = search rules in
    let rows = unnamed_rows c.args.matches.now c.subcommand.result c.subcommand.ensures.name none in
    λ is task found entered asks. cc

pub returns-clause-some : goal.returns-clause-some
returns-clause-some c =
    task_of_rows (subcommand_rows_of c.args.matches.now) c.in_ok-name.name.now (rows_of (found_of c.in_ok-name.found.now)) c.task_named.result
    (named_rows c.args.matches.now c.subcommand.result c.in_ok-name.name c.in_ok-name.found c.subcommand.ensures.name c.subcommand.ensures.rows c.in_ok-name.was)
    c.task_named.ensures

pub returns-clause-none : goal.returns-clause-none
returns-clause-none c =
    no_task_of_rows (subcommand_rows_of c.args.matches.now) c.in_ok-name.name.now (rows_of (found_of c.in_ok-name.found.now)) c.task_named.result
    (named_rows c.args.matches.now c.subcommand.result c.in_ok-name.name c.in_ok-name.found c.subcommand.ensures.name c.subcommand.ensures.rows c.in_ok-name.was)
    c.task_named.ensures
