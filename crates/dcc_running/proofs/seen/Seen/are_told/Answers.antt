use Rattle.std.proofs.Common.{◌∙◌, sym, ap, cond}
use Rattle.dcc_running.proofs.seen.Seen.are_told.Goals as goal

pub returns-clause-yes : goal.returns-clause-yes
returns-clause-yes c = λ all place low high.
    rw (← c.self.view_is) (sym (c.self.invariant.0 c.args.sub place) ∙ ap (λ b. cond b 1 0) (c.are_marked.ensures.yes all place low high))
