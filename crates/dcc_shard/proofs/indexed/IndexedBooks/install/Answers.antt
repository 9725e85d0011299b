use Rattle.std.proofs.Common.{sym, ap, subst, ◌∙◌}
use Rattle.dcc_account.specs.Prepared.{StepView}
use Rattle.dcc_shard.specs.inner.Indexed.{IndexedView, noted_at, opening}
use Rattle.dcc_shard.specs.inner.Pending.{step_of, IsPending}
use Rattle.dcc_shard.proofs.Opening.{openers_after}
use Rattle.dcc_shard.proofs.indexed.IndexedBooks.install.Goals as goal

pub invariant_of-self : goal.invariant_of-self
invariant_of-self c =
    let step = step_of c.args.ready.pending in
    let pending = subst (λ (v : IndexedView). IsPending v.books c.args.sub step.act c.args.ready.pending) (sym c.self.view_is) c.requires.pending in
    openers_after c.same_subscribers_are_equal.ensures c.leaving_out_changes_nothing.ensures.openers c.one_more_act_opens.ensures c.self.inside.books c.install.new.self c.args.sub step
    c.self.inside.openers c.note.new.openers c.self.invariant c.install.ensures.step pending.outcome_is pending.new_is
    (λ h s. c.note.ensures.noted h s ∙ ap (λ (made : StepView). noted_at (opening made) c.args.sub c.self.inside.openers h s) c.step.ensures)
