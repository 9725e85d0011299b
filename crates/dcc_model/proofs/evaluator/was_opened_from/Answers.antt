use Rattle.std.proofs.Common.{List, reverse, ap, ◌∙◌}
use Rattle.dcc_model.specs.declared.done.Done.{Done}
use Rattle.dcc_model.specs.Outcomes.{was_opened_from}
use Rattle.dcc_model.specs.Sessions.{was_opened_in}
use Rattle.dcc_model.proofs.evaluator.was_opened_from.Goals as goal

pub returns : goal.returns
unfolding was_opened_from
returns c =
    c.was_opened_in.ensures
    ∙ ap (λ (past : List Done). was_opened_in (reverse past) c.args.host.now c.args.sid.now) c.deref.ensures.value
    ∙ ap (λ (past : List Done). was_opened_in past c.args.host.now c.args.sid.now) c.in_ok-made.ensures
