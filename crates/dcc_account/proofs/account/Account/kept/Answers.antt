use Rattle.std.proofs.Common.{reverse, ◌∙◌}
use Rattle.dcc_model.specs.Outcomes.{history}
use Rattle.dcc_account.proofs.Lookbacks.{kept_at_place}
use Rattle.dcc_account.proofs.Steps.{kept_in}
use Rattle.dcc_account.proofs.account.Account.kept.Goals as goal

pub returns : goal.returns
returns c =
    let own = c.self.inside in
    let past = history own.terms (reverse own.acts.acts) in
    let found =
    kept_at_place past c.deref.result.now c.args.key.now c.place_of_request.result _ (c.deref.ensures.value ∙ c.self.invariant.kept.came_are) (c.place_of_request.ensures past c.self.invariant.indexed) c.outcome_at.ensures in
    rw (← c.self.view_is) (kept_in own.terms own.acts.acts c.args.key.now _ found)
