use Rattle.std.proofs.Common.{map, string_bytes}
use Rattle.dcc_program.proofs.CommandLineLemmas.{wished, task_asked, nothing_asked}
use Rattle.dcc_program.proofs.command_line.task_of.Goals as goal

pub returns-in-Err-clause-task : goal.returns-in-Err-clause-task
returns-in-Err-clause-task c =
    (wished (map string_bytes c.args.words.now) _ c.in-Err.error c.wish_of.result c.in_ok-command.ensures c.in-Err.ensures.kinds
    (rw c.kind.ensures at c.wish_of.ensures)).0

pub returns-in-Err-clause-failure : goal.returns-in-Err-clause-failure
returns-in-Err-clause-failure c =
    (wished (map string_bytes c.args.words.now) _ c.in-Err.error c.wish_of.result c.in_ok-command.ensures c.in-Err.ensures.kinds
    (rw c.kind.ensures at c.wish_of.ensures)).1

pub returns-in-Some-clause-task : goal.returns-in-Some-clause-task
returns-in-Some-clause-task c =
    task_asked (map string_bytes c.args.words.now) _ c.in-Ok.matches c.in-Some.task c.in_ok-command.ensures c.in-Ok.ensures.kinds c.in-Ok.ensures.matches
    c.in-Some.ensures.some

pub returns-in-None-clause-failure : goal.returns-in-None-clause-failure
returns-in-None-clause-failure c =
    nothing_asked (map string_bytes c.args.words.now) _ c.in-Ok.matches c.in_ok-command.ensures c.in-Ok.ensures.kinds c.in-Ok.ensures.matches
    (c.task_in-task.ensures.none c.in-None.is)
