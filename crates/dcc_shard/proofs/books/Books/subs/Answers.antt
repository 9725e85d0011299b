use Rattle.std.proofs.Common.{subst, ◌∙◌}
use Rattle.std.specs.List.{IsDistinct}
use Rattle.std.specs.Map.{keys_of}
use Rattle.dcc_act.specs.Subs.{same_sub}
use Rattle.dcc_shard.specs.inner.Books.{BooksView, AreBooks}
use Rattle.dcc_shard.proofs.Ordered.{sorted_keys, among_sorted, some_held, none_held}
use Rattle.dcc_shard.proofs.books.Books.subs.Goals as goal

pub returns-clause-order : goal.returns-clause-order
returns-clause-order c =
    let distinct = subst (λ (b : BooksView). IsDistinct same_sub (keys_of b.rows)) c.self.view_is c.len.ensures.unique in
    (sorted_keys c.args.self.now.rows c.loop-sub.subs.items c.loop-sub.sub-iterator c.sort.new.self.items c.loop-sub.invariant.subs c.in-None.ensures.steps.0 distinct c.sort.ensures.permutation
    c.in_ok-sort.ensures.sorted).order

pub returns-clause-some : goal.returns-clause-some
returns-clause-some c = λ sub among.
    let distinct = subst (λ (b : BooksView). IsDistinct same_sub (keys_of b.rows)) c.self.view_is c.len.ensures.unique in
    let books = subst (λ (b : BooksView). AreBooks b.rows b.terms) c.self.view_is c.self.invariant in
    let sorted = sorted_keys c.args.self.now.rows c.loop-sub.subs.items c.loop-sub.sub-iterator c.sort.new.self.items c.loop-sub.invariant.subs c.in-None.ensures.steps.0 distinct c.sort.ensures.permutation
    c.in_ok-sort.ensures.sorted in
    some_held c.args.self.now.rows sub (books.begun sub) (among_sorted c.args.self.now.rows c.sort.new.self.items sub sorted ∙ among)

pub returns-clause-none : goal.returns-clause-none
returns-clause-none c = λ sub apart.
    let distinct = subst (λ (b : BooksView). IsDistinct same_sub (keys_of b.rows)) c.self.view_is c.len.ensures.unique in
    let sorted = sorted_keys c.args.self.now.rows c.loop-sub.subs.items c.loop-sub.sub-iterator c.sort.new.self.items c.loop-sub.invariant.subs c.in-None.ensures.steps.0 distinct c.sort.ensures.permutation
    c.in_ok-sort.ensures.sorted in
    none_held c.args.self.now.rows sub (among_sorted c.args.self.now.rows c.sort.new.self.items sub sorted ∙ apart)
