use Rattle.std.proofs.Common.{◌≡◌, true, false, sym, ap, subst, ◌∙◌}
use Rattle.dcc_tariff.specs.Terms.{TermsView}
use Rattle.dcc_store.specs.Stops.{LeavesOnly}
use Rattle.dcc_shard.specs.Shards.{held_in}
use Rattle.dcc_shard.specs.inner.Books.{BooksView, KeptView, IsStepOfBooks}
use Rattle.dcc_shard.specs.inner.Pending.{step_of, IsPending}
use Rattle.dcc_shard.proofs.Storing.{next_of, next_in_found, stored_only, alike_only, held_with, held_same, with_then, appended_of, kept_by_append, kept_without, one_more_left, only_in_batch}
use Rattle.dcc_shard.proofs.kept.KeptBooks.commit.Goals.{then-is_new+in-Ok, else-is_new}
use Rattle.dcc_shard.proofs.kept.KeptBooks.commit.Goals as goal

pub append-requires : goal.append-requires
append-requires g c =
    let books = c.self.inside.books.books in
    let step = step_of c.args.ready.pending in
    let pending = subst (λ (v : KeptView g.row.R.Denot). IsPending v.books c.args.sub step.act c.args.ready.pending) (sym c.self.view_is) c.requires.pending in
    let made : step.is_new ≡ true = sym (ap (λ s. s.is_new) c.step-step.ensures) ∙ sym c.is_new.ensures ∙ c.if-is_new.true in
    let next = next_of c.new_acts_come_next.ensures.next books c.args.sub c.args.ready.pending (c.acts_are_own.ensures c.args.sub) pending made in
    λ going found left. rw (c.act.ensures, c.entries.ensures, c.step-step.ensures, c.self.invariant.0) (next_in_found c.new_acts_come_next.ensures.found books.terms (held_in books.rows) c.args.sub step.act step.entries
    (g.R.Records.may_leave c.self.inside.records) (c.self.invariant.1 going) next found left)

pub invariant_of-self : goal.invariant_of-self
invariant_of-self g c =
    let books = c.self.inside.books.books in
    let step = step_of c.args.ready.pending in
    let pending = subst (λ (v : KeptView g.row.R.Denot). IsPending v.books c.args.sub step.act c.args.ready.pending) (sym c.self.view_is) c.requires.pending in
    let made : step.is_new ≡ true = sym (ap (λ s. s.is_new) c.step-step.ensures) ∙ sym c.is_new.ensures ∙ c.if-is_new.true in
    let act_is = c.act.ensures ∙ ap (λ s. s.act) c.step-step.ensures in
    let going = subst (λ (v : KeptView g.row.R.Denot). g.R.Records.is_stopped v.records ≡ false) (sym c.self.view_is) c.requires.going in
    let before = c.self.invariant.1 going in
    let kept =
    kept_by_append books.terms (held_in books.rows) c.args.sub step.act c.append.result _ _ _ _ _ _
    (appended_of books.terms _ (held_in books.rows) c.args.sub step.act c.act.result.now c.append.result _ _ _ _ _ _ c.self.invariant.0 act_is c.append.ensures.crash c.append.ensures.device c.append.ensures.going
    c.append.ensures.frozen) c.self.invariant.1 c.content_has_one_book.ensures.alike (with_then c.same_subscribers_are_equal.ensures c.one_more_act.ensures c.acts_stand_apart.ensures.own c.acts_stand_apart.ensures.others
    books.terms (held_in books.rows) c.args.sub step.act (c.acts_are_own.ensures c.args.sub) (sym pending.new_is ∙ made)) in
    let only_under = λ (t : TermsView). LeavesOnly t (held_in books.rows) (g.R.Records.may_leave c.append.new.self) in (
      c.in-Err.ensures.terms ∙ c.self.invariant.0,
      λ still.
          let before_under = subst (λ (t : TermsView). LeavesOnly t (held_in books.rows) (g.R.Records.may_leave c.self.inside.records)) (sym c.self.invariant.0) before in
          subst only_under c.self.invariant.0 (c.in-Err.ensures.refused (held_in books.rows) before_under still),
      λ _. one_more_left books.terms (held_in books.rows) c.args.sub step.act _ (kept.crash going),
    )

pub returns-in-Err-clause-kept : goal.returns-in-Err-clause-kept
returns-in-Err-clause-kept g c =
    let books = c.self.inside.books.books in
    let step = step_of c.args.ready.pending in
    let pending = subst (λ (v : KeptView g.row.R.Denot). IsPending v.books c.args.sub step.act c.args.ready.pending) (sym c.self.view_is) c.requires.pending in
    let made : step.is_new ≡ true = sym (ap (λ s. s.is_new) c.step-step.ensures) ∙ sym c.is_new.ensures ∙ c.if-is_new.true in
    let act_is = c.act.ensures ∙ ap (λ s. s.act) c.step-step.ensures in
    rw (← c.self.view_is) (kept_by_append books.terms (held_in books.rows) c.args.sub step.act c.append.result _ _ _ _ _ _
    (appended_of books.terms _ (held_in books.rows) c.args.sub step.act c.act.result.now c.append.result _ _ _ _ _ _ c.self.invariant.0 act_is c.append.ensures.crash c.append.ensures.device c.append.ensures.going
    c.append.ensures.frozen) c.self.invariant.1 c.content_has_one_book.ensures.alike (with_then c.same_subscribers_are_equal.ensures c.one_more_act.ensures c.acts_stand_apart.ensures.own c.acts_stand_apart.ensures.others
    books.terms (held_in books.rows) c.args.sub step.act (c.acts_are_own.ensures c.args.sub) (sym pending.new_is ∙ made)))

pub invariant_of-self-2 : goal.invariant_of-self-2
invariant_of-self-2 g c =
    let books = c.self.inside.books.books in
    let step = step_of c.args.ready.pending in
    let pending = subst (λ (v : KeptView g.row.R.Denot). IsPending v.books c.args.sub step.act c.args.ready.pending) (sym c.self.view_is) c.requires.pending in
    let going = subst (λ (v : KeptView g.row.R.Denot). g.R.Records.is_stopped v.records ≡ false) (sym c.self.view_is) c.requires.going in
    let before = c.self.invariant.1 going in
    elim c.if-is_new.branch [
      | then-is_new+in-Ok w ↦
          let act_is = w.act.ensures ∙ ap (λ s. s.act) c.step-step.ensures in
          let made : step.is_new ≡ true = sym (ap (λ s. s.is_new) c.step-step.ensures) ∙ sym c.is_new.ensures ∙ w.if-is_new.true in
          let books_are : c.if-is_new.self-inside.books.books ≡ books = ap (λ i. i.books.books) w.self-inside-is in
          let records_are : c.if-is_new.self-inside.records ≡ w.append.new.self = ap (λ i. i.records) w.self-inside-is in
          let done = subst (λ (b : BooksView). IsStepOfBooks b c.install.new.self.books c.args.sub step.act) books_are c.install.ensures.step in
          let alike = held_with c.same_subscribers_are_equal.ensures c.one_more_act.ensures c.acts_stand_apart.ensures.own c.acts_stand_apart.ensures.others books c.install.new.self.books c.args.sub step.act
          (c.acts_are_own.ensures c.args.sub) (sym pending.new_is ∙ made) done in
          let only =
          stored_only c.content_has_one_book.ensures.alike books.terms _ (held_in books.rows) (held_in c.install.new.self.books.rows) c.args.sub step.act w.act.result.now _ _ c.self.invariant.0 act_is
          w.in-Ok.ensures.stored alike before in
          rw (records_are, done.terms) (w.append.ensures.terms ∙ c.self.invariant.0, λ _. only, λ _. only_in_batch books.terms (held_in c.install.new.self.books.rows) _ only)
      | else-is_new w ↦
          let old : step.is_new ≡ false = sym (ap (λ s. s.is_new) c.step-step.ensures) ∙ sym c.is_new.ensures ∙ w.if-is_new.false in
          let books_are : c.if-is_new.self-inside.books.books ≡ books = ap (λ i. i.books.books) w.self-inside-is in
          let records_are : c.if-is_new.self-inside.records ≡ c.self.inside.records = ap (λ i. i.records) w.self-inside-is in
          let done = subst (λ (b : BooksView). IsStepOfBooks b c.install.new.self.books c.args.sub step.act) books_are c.install.ensures.step in
          let alike = held_same c.same_subscribers_are_equal.ensures c.one_more_act.ensures books c.install.new.self.books c.args.sub step.act (c.acts_are_own.ensures c.args.sub) (sym pending.new_is ∙ old) done in
          let only = alike_only c.content_has_one_book.ensures.alike books.terms (held_in books.rows) (held_in c.install.new.self.books.rows) _ alike before in
          rw (records_are, done.terms) (c.self.invariant.0, λ _. only, λ _. only_in_batch books.terms (held_in c.install.new.self.books.rows) _ only)
    ]

pub returns-clause-kept : goal.returns-clause-kept
returns-clause-kept g c =
    let books = c.self.inside.books.books in
    let step = step_of c.args.ready.pending in
    let pending = subst (λ (v : KeptView g.row.R.Denot). IsPending v.books c.args.sub step.act c.args.ready.pending) (sym c.self.view_is) c.requires.pending in
    elim c.if-is_new.branch [
      | then-is_new+in-Ok w ↦
          let made : step.is_new ≡ true = sym (ap (λ s. s.is_new) c.step-step.ensures) ∙ sym c.is_new.ensures ∙ w.if-is_new.true in
          let act_is = w.act.ensures ∙ ap (λ s. s.act) c.step-step.ensures in
          let records_are : c.if-is_new.self-inside.records ≡ w.append.new.self = ap (λ i. i.records) w.self-inside-is in
          rw (← c.self.view_is, records_are) (kept_by_append books.terms (held_in books.rows) c.args.sub step.act w.append.result _ _ _ _ _ _
          (appended_of books.terms _ (held_in books.rows) c.args.sub step.act w.act.result.now w.append.result _ _ _ _ _ _ c.self.invariant.0 act_is w.append.ensures.crash w.append.ensures.device w.append.ensures.going
          w.append.ensures.frozen) c.self.invariant.1 c.content_has_one_book.ensures.alike (with_then c.same_subscribers_are_equal.ensures c.one_more_act.ensures c.acts_stand_apart.ensures.own c.acts_stand_apart.ensures.others
          books.terms (held_in books.rows) c.args.sub step.act (c.acts_are_own.ensures c.args.sub) (sym pending.new_is ∙ made)))
      | else-is_new w ↦
          let records_are : c.if-is_new.self-inside.records ≡ c.self.inside.records = ap (λ i. i.records) w.self-inside-is in
          rw (← c.self.view_is, records_are) (kept_without books.terms (held_in books.rows) c.args.sub step.act _ _ _ c.self.invariant.1)
    ]
