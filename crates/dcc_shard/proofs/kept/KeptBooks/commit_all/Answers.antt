use Rattle.std.proofs.Common.{◌≡◌, true, false, List, length, sym, subst, ◌∙◌}
use Rattle.std.specs.List.{AllByRecursion}
use Rattle.dcc_tariff.specs.Terms.{TermsView}
use Rattle.dcc_store.specs.Batches as batches
use Rattle.dcc_store.specs.Batches.{subs_of, acts_of, AreNext}
use Rattle.dcc_store.specs.Stops.{LeavesOnly}
use Rattle.dcc_shard.specs.Shards.{held_in}
use Rattle.dcc_shard.specs.inner.Books.{KeptView}
use Rattle.dcc_shard.specs.inner.Plans.{IsStanding, steps_in, additions_in}
use Rattle.dcc_shard.specs.declared.plan.Plan.{Plan}
use Rattle.dcc_shard.proofs.Committing.{apart_news, news_are_next, news_then, either_then, stored_then}
use Rattle.dcc_shard.proofs.Storing.{batch_left, only_in_batch}
use Rattle.dcc_shard.proofs.kept.KeptBooks.commit_all.Goals as goal

pub append_plans-requires-clause-apart : goal.append_plans-requires-clause-apart
append_plans-requires-clause-apart g c =
    let P : List Plan → Type 0 = λ all. batches.are_apart (subs_of (additions_in all)) ≡ true in
    subst P (sym c.deref.ensures.value) (apart_news c.same_subscribers_are_equal.ensures c.args.plans.items c.requires.apart)

pub append_plans-requires-clause-next : goal.append_plans-requires-clause-next
append_plans-requires-clause-next g c = λ going found left.
    let books = c.self.inside.books.books in
    let openers = c.self.inside.books.openers in
    let all = c.args.plans.items in
    let standing = subst (λ (v : KeptView g.row.R.Denot). AllByRecursion (IsStanding v.books v.openers (length all)) all) (sym c.self.view_is) c.requires.standing in
    let next = news_are_next c.new_acts_come_next.ensures.next books openers (length all) c.acts_are_own.ensures all standing in
    let there = c.batches_come_next.ensures.found books.terms (additions_in all) (held_in books.rows) found (c.self.invariant.1 going found left) next in
    let P : TermsView → Type 0 = λ terms. AreNext terms (additions_in all) (acts_of found) in
    let Q : List Plan → Type 0 = λ some. AreNext (g.R.Records.terms c.self.inside.records) (additions_in some) (acts_of found) in
    subst Q (sym c.deref.ensures.value) (subst P (sym c.self.invariant.0) there)

pub install_all-requires-clause-standing : goal.install_all-requires-clause-standing
install_all-requires-clause-standing g c =
    subst (λ (v : KeptView g.row.R.Denot). AllByRecursion (IsStanding v.books v.openers (length c.args.plans.items)) c.args.plans.items) (sym c.self.view_is) c.requires.standing

pub invariant_of-self : goal.invariant_of-self
invariant_of-self g c =
    let books = c.self.inside.books.books in
    let openers = c.self.inside.books.openers in
    let held = held_in books.rows in
    let all = c.args.plans.items in
    let new = c.install_all.new.self.books in
    let leaves = g.R.Records.may_leave c.append_plans.new.records in
    let standing = subst (λ (v : KeptView g.row.R.Denot). AllByRecursion (IsStanding v.books v.openers (length all)) all) (sym c.self.view_is) c.requires.standing in
    let going = subst (λ (v : KeptView g.row.R.Denot). g.R.Records.is_stopped v.records ≡ false) (sym c.self.view_is) c.requires.going in
    let before_under = subst (λ (t : TermsView). LeavesOnly t held (g.R.Records.may_leave c.self.inside.records)) (sym c.self.invariant.0) (c.self.invariant.1 going) in
    let laws = c.batches_stand_apart.ensures in
    let alike = news_then c.same_subscribers_are_equal.ensures c.one_more_act.ensures laws.first laws.others books openers (length all) c.acts_are_own.ensures all standing c.requires.apart in
    let only =
    stored_then c.content_has_one_book.ensures.alike books.terms _ held (held_in new.rows) all c.deref.result.now leaves c.self.invariant.0 c.deref.ensures.value
    (λ other. alike other ∙ sym (c.install_all.ensures.held other)) (c.in-Ok.ensures.stored held before_under) in
    let only_new = subst (λ (t : TermsView). LeavesOnly t (held_in new.rows) leaves) (sym c.install_all.ensures.terms) only in (
      c.in-Ok.ensures.terms ∙ c.self.invariant.0 ∙ sym c.install_all.ensures.terms,
      λ _. only_new,
      λ _. only_in_batch new.terms (held_in new.rows) leaves only_new,
    )

pub invariant_of-self-in-Err : goal.invariant_of-self-in-Err
invariant_of-self-in-Err g c =
    let books = c.self.inside.books.books in
    let openers = c.self.inside.books.openers in
    let held = held_in books.rows in
    let all = c.args.plans.items in
    let leaves = g.R.Records.may_leave c.append_plans.new.records in
    let standing = subst (λ (v : KeptView g.row.R.Denot). AllByRecursion (IsStanding v.books v.openers (length all)) all) (sym c.self.view_is) c.requires.standing in
    let going = subst (λ (v : KeptView g.row.R.Denot). g.R.Records.is_stopped v.records ≡ false) (sym c.self.view_is) c.requires.going in
    let before_under = subst (λ (t : TermsView). LeavesOnly t held (g.R.Records.may_leave c.self.inside.records)) (sym c.self.invariant.0) (c.self.invariant.1 going) in
    let laws = c.batches_stand_apart.ensures in
    let alike = news_then c.same_subscribers_are_equal.ensures c.one_more_act.ensures laws.first laws.others books openers (length all) c.acts_are_own.ensures all standing c.requires.apart in
    let either =
    either_then c.content_has_one_book.ensures.alike books.terms _ held all c.deref.result.now leaves c.self.invariant.0 c.deref.ensures.value alike (c.append_plans.ensures.crash held before_under) in (
      c.in-Err.ensures.terms ∙ c.self.invariant.0,
      λ still. subst (λ (t : TermsView). LeavesOnly t held leaves) c.self.invariant.0 (c.in-Err.ensures.refused held before_under still),
      λ _. batch_left books.terms held (steps_in all) leaves c.requires.apart either,
    )

pub returns-in-Ok-clause-crash : goal.returns-in-Ok-clause-crash
returns-in-Ok-clause-crash g c =
    let books = c.self.inside.books.books in
    let openers = c.self.inside.books.openers in
    let held = held_in books.rows in
    let all = c.args.plans.items in
    let leaves = g.R.Records.may_leave c.append_plans.new.records in
    let standing = subst (λ (v : KeptView g.row.R.Denot). AllByRecursion (IsStanding v.books v.openers (length all)) all) (sym c.self.view_is) c.requires.standing in
    let going = subst (λ (v : KeptView g.row.R.Denot). g.R.Records.is_stopped v.records ≡ false) (sym c.self.view_is) c.requires.going in
    let before_under = subst (λ (t : TermsView). LeavesOnly t held (g.R.Records.may_leave c.self.inside.records)) (sym c.self.invariant.0) (c.self.invariant.1 going) in
    let laws = c.batches_stand_apart.ensures in
    let alike = news_then c.same_subscribers_are_equal.ensures c.one_more_act.ensures laws.first laws.others books openers (length all) c.acts_are_own.ensures all standing c.requires.apart in
    rw (← c.self.view_is) (either_then c.content_has_one_book.ensures.alike books.terms _ held all c.deref.result.now leaves c.self.invariant.0 c.deref.ensures.value alike (c.append_plans.ensures.crash held before_under))

pub returns-in-Err-clause-crash : goal.returns-in-Err-clause-crash
returns-in-Err-clause-crash g c =
    let books = c.self.inside.books.books in
    let openers = c.self.inside.books.openers in
    let held = held_in books.rows in
    let all = c.args.plans.items in
    let leaves = g.R.Records.may_leave c.append_plans.new.records in
    let standing = subst (λ (v : KeptView g.row.R.Denot). AllByRecursion (IsStanding v.books v.openers (length all)) all) (sym c.self.view_is) c.requires.standing in
    let going = subst (λ (v : KeptView g.row.R.Denot). g.R.Records.is_stopped v.records ≡ false) (sym c.self.view_is) c.requires.going in
    let before_under = subst (λ (t : TermsView). LeavesOnly t held (g.R.Records.may_leave c.self.inside.records)) (sym c.self.invariant.0) (c.self.invariant.1 going) in
    let laws = c.batches_stand_apart.ensures in
    let alike = news_then c.same_subscribers_are_equal.ensures c.one_more_act.ensures laws.first laws.others books openers (length all) c.acts_are_own.ensures all standing c.requires.apart in
    rw (← c.self.view_is) (either_then c.content_has_one_book.ensures.alike books.terms _ held all c.deref.result.now leaves c.self.invariant.0 c.deref.ensures.value alike (c.append_plans.ensures.crash held before_under))
