use Rattle.std.proofs.Common.{◌≡◌, false, ◌∙◌, Some, rules, refl, sym, ap, subst, ◌∙◌}
use Rattle.std.specs.Option.{option_copied_mut}
use Rattle.dcc_shard.specs.Shards.{account_in}
use Rattle.dcc_shard.specs.inner.Books.{BooksView}
use Rattle.dcc_shard.specs.inner.Pending.{Stands}
use Rattle.dcc_act.specs.Subs.{same_sub}
use Rattle.dcc_shard.proofs.Subs.{same_sub-other}
use Rattle.dcc_shard.proofs.BookSteps.{found_in, found_none, begun_still, written_steps, unmade_steps}
use Rattle.dcc_shard.proofs.books.Books.install.Goals as goal

pub invariant_of-self : goal.invariant_of-self
invariant_of-self c =
    let rows = c.self.inside.accounts.entries in
    let terms = c.self.inside.terms in
    let was = c.unwrap-account.result.now in
    let account = c.install.new.self in
    let act = c.in-Known.step.act in
    let is : account_in rows c.args.sub ≡ Some was = sym (ap option_copied_mut (sym c.unwrap-account.ensures) ∙ c.get_mut.ensures.value) in
    let found = found_in rows terms c.args.sub was c.self.invariant is in
    (written_steps c.same_subscribers_are_equal.ensures c.leaving_out_changes_nothing.ensures.whole rows (c.get_mut.follows.lender account).entries terms c.args.sub was account act c.self.invariant found
    ((c.get_mut.follows.holds account).3 (search rules)).0 c.install.ensures.terms c.install.ensures.acts
    (begun_still c.one_more_act.ensures rows terms c.args.sub was account act c.self.invariant is c.install.ensures.acts)).books

pub returns-in-Known-clause-step : goal.returns-in-Known-clause-step
returns-in-Known-clause-step c =
    let rows = c.self.inside.accounts.entries in
    let terms = c.self.inside.terms in
    let was = c.unwrap-account.result.now in
    let account = c.install.new.self in
    let act = c.in-Known.step.act in
    let is : account_in rows c.args.sub ≡ Some was = sym (ap option_copied_mut (sym c.unwrap-account.ensures) ∙ c.get_mut.ensures.value) in
    let found = found_in rows terms c.args.sub was c.self.invariant is in
    let step = written_steps c.same_subscribers_are_equal.ensures c.leaving_out_changes_nothing.ensures.whole rows (c.get_mut.follows.lender account).entries terms c.args.sub was account act c.self.invariant found
    ((c.get_mut.follows.holds account).3 (search rules)).0 c.install.ensures.terms c.install.ensures.acts
    (begun_still c.one_more_act.ensures rows terms c.args.sub was account act c.self.invariant is c.install.ensures.acts) in
    rw (c.in-Known.is, ← c.self.view_is) (record { own = step.own; others = step.others; terms = refl })

pub returns-else-has_acts-clause-step : goal.returns-else-has_acts-clause-step
returns-else-has_acts-clause-step c =
    let account = c.in-First.account in
    let stands = subst (Stands c.args.self.now c.args.sub) c.in-First.is c.requires in
    let none = ap (λ (books : BooksView). account_in books.rows c.args.sub) c.self.view_is ∙ stands.0 in
    let found = found_none c.self.inside.accounts.entries c.self.inside.terms c.args.sub account none (stands.1 ∙ sym (ap (λ (books : BooksView). books.terms) c.self.view_is)) stands.2 in
    let step = unmade_steps c.same_subscribers_are_equal.ensures c.self.inside.accounts.entries c.self.inside.terms c.args.sub account c.install-in-First.new.self c.in-First.step.act c.self.invariant found
    stands.2 c.install-in-First.ensures.acts (c.has_acts.ensures.none c.if-has_acts.false) in
    rw (c.in-First.is, ← c.self.view_is) (record { own = step.own; others = step.others; terms = refl })

pub invariant_of-self-then-has_acts : goal.invariant_of-self-then-has_acts
invariant_of-self-then-has_acts c =
    let was = c.in-First.account in
    let stands = subst (Stands c.args.self.now c.args.sub) c.in-First.is c.requires in
    let none = ap (λ (books : BooksView). account_in books.rows c.args.sub) c.self.view_is ∙ stands.0 in
    let found = found_none c.self.inside.accounts.entries c.self.inside.terms c.args.sub was none (stands.1 ∙ sym (ap (λ (books : BooksView). books.terms) c.self.view_is)) stands.2 in
    (written_steps c.same_subscribers_are_equal.ensures c.leaving_out_changes_nothing.ensures.whole c.self.inside.accounts.entries c.add.new.accounts.entries c.self.inside.terms c.args.sub was
    c.install-in-First.new.self c.in-First.step.act c.self.invariant found c.add.ensures.added c.install-in-First.ensures.terms c.install-in-First.ensures.acts (c.has_acts.ensures.some c.if-has_acts.true)).books

pub returns-then-has_acts-clause-step : goal.returns-then-has_acts-clause-step
returns-then-has_acts-clause-step c =
    let was = c.in-First.account in
    let stands = subst (Stands c.args.self.now c.args.sub) c.in-First.is c.requires in
    let none = ap (λ (books : BooksView). account_in books.rows c.args.sub) c.self.view_is ∙ stands.0 in
    let found = found_none c.self.inside.accounts.entries c.self.inside.terms c.args.sub was none (stands.1 ∙ sym (ap (λ (books : BooksView). books.terms) c.self.view_is)) stands.2 in
    let step = written_steps c.same_subscribers_are_equal.ensures c.leaving_out_changes_nothing.ensures.whole c.self.inside.accounts.entries c.add.new.accounts.entries c.self.inside.terms c.args.sub was
    c.install-in-First.new.self c.in-First.step.act c.self.invariant found c.add.ensures.added c.install-in-First.ensures.terms c.install-in-First.ensures.acts (c.has_acts.ensures.some c.if-has_acts.true) in
    rw (c.in-First.is, ← c.self.view_is) (record { own = step.own; others = step.others; terms = refl })

pub returns-then-has_acts-clause-others : goal.returns-then-has_acts-clause-others
returns-then-has_acts-clause-others c = λ other apart.
    let beside : same_sub c.args.sub other ≡ false = same_sub-other c.same_subscribers_are_equal.ensures c.args.sub other (λ e. apart (sym e)) in
    c.add.ensures.added other ∙ rw beside (ap (λ (books : BooksView). account_in books.rows other) c.self.view_is)
