use Rattle.std.proofs.Common.{◌++◌, length, drop, rules, ap, subst, ◌∙◌, option_to_list}
use Rattle.dcc_store.specs.Books.{acts_in, AreInOrder}
use Rattle.dcc_shard.proofs.Pages.{next_page, none_held}
use Rattle.dcc_shard.proofs.indexed.IndexedBooks.of_book.Goals as goal

pub add_page-requires : goal.add_page-requires
add_page-requires c =
    let sorted = subst AreInOrder c.into_vec-pages.ensures.value c.into_vec-pages.ensures.ordered in
    let popped = c.pop.ensures.items ∙ ap (λ o. c.pop.new.self.items ++ option_to_list o) c.unwrap.ensures in
    c.loop.invariant.held c.into_parts-sub.result.0 ∙ ap (acts_in (drop (length c.loop.pages.items) c.args.book)) c.into_parts-sub.ensures.sub
    ∙ none_held c.args.book c.loop.pages.items c.pop.new.self.items c.unwrap.result sorted c.loop.invariant.left popped

pub loop-preserved : goal.loop-preserved
loop-preserved c =
    let sorted = subst AreInOrder c.into_vec-pages.ensures.value c.into_vec-pages.ensures.ordered in
    let popped = c.pop.ensures.items ∙ ap (λ o. c.pop.new.self.items ++ option_to_list o) c.unwrap.ensures in
    let next = next_page c.same_subscribers_are_equal.ensures c.leaving_out_changes_nothing.ensures.none c.args.book c.loop.pages.items c.pop.new.self.items c.unwrap.result c.args.terms.now
    c.loop.indexed.books c.add_page.new.self.books c.into_parts-sub.result.0 c.into_parts-sub.result.1.items sorted c.requires c.loop.invariant.left popped c.loop.invariant.held
    c.into_parts-sub.ensures.sub c.into_parts-sub.ensures.acts c.loop.invariant.terms c.in-Ok.ensures.page in
    record {
      left = next.left_is;
      count = search rules;
      end = c.loop.invariant.end;
      terms = c.add_page.ensures.terms ∙ c.loop.invariant.terms;
      held = next.held;
    }
