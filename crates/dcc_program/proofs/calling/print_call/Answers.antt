use Rattle.dcc_program.proofs.Callings.{called}
use Rattle.dcc_program.proofs.calling.print_call.Goals as goal

pub returns-in-Ok-clause-printed : goal.returns-in-Ok-clause-printed
returns-in-Ok-clause-printed g c =
    called c.args.ask.now.call (g.I.Read.remaining c.args.answers.now) c.in-Ok.answer c.print_answer-printed.result _ _ c.in-Ok.ensures.found
    c.print_answer-printed.ensures.whole
