use Rattle.std.proofs.Common.{not, reverse, sym, ap, ◌∙◌, arith, refl}
use Rattle.std.specs.Option.{option_copied}
use Rattle.dcc_model.specs.Outcomes.{history, standing}
use Rattle.dcc_account.specs.Accounts.{AccountView}
use Rattle.dcc_account.proofs.Lookbacks.{has_some, first_at}
use Rattle.dcc_account.proofs.Steps.{many_came, known_at, within_at}
use Rattle.dcc_account.proofs.account.Account.known.Goals as goal

pub returns-clause-known : goal.returns-clause-known
returns-clause-known c =
    let own = c.self.inside in
    let all = own.acts.acts in
    let came = own.outcomes.items in
    let past = history own.terms (reverse all) in
    let kept = c.self.invariant.kept in
    let indexed = c.self.invariant.indexed in
    let many = many_came own.terms all came own.entries.items kept in
    rw (← c.self.view_is)
    (known_at own.terms all came own.entries.items own.pool own.overrun own.sessions.items own.sessions.items own.due own.indexes c.args.act.now _ (option_copied c.outcome_at.result) c.self.invariant refl (omega arith)
    (ap not c.is_empty.ensures ∙ has_some own.terms (reverse all) own.outcomes.len (omega (arith, many)))
    (c.was_opened.ensures past indexed)
    (c.place-place.ensures past indexed)
    (first_at past c.deref.result.now c.args.act.now.kind c.place-place.result _ (c.deref.ensures.value ∙ kept.came_are) (c.place-place.ensures past indexed) c.outcome_at.ensures)
    (c.standing.ensures ∙ sym (ap (λ (a : AccountView). standing a.terms a.acts) c.self.view_is)))

pub returns-clause-within : goal.returns-clause-within
returns-clause-within c =
    let own = c.self.inside in
    rw (← c.self.view_is)
    (within_at c.money_is_within.ensures own.terms own.acts.acts own.outcomes.items own.entries.items own.pool own.overrun own.sessions.items own.sessions.items own.due own.indexes c.self.invariant c.standing.result (c.standing.ensures ∙ sym (ap (λ (a : AccountView). standing a.terms a.acts) c.self.view_is)) refl (omega arith))
