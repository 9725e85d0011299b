use Rattle.std.proofs.Common.{arith, sym, ap, ◌∙◌, refl}
use Rattle.dcc_act.specs.declared.sub.Sub.{Sub}
use Rattle.dcc_store.specs.Books.{sub_order}
use Rattle.dcc_store.proofs.Orders.{ordered, out_of_order}
use Rattle.dcc_store.proofs.book.are_in_order.Goals as goal

pub returns-then-not-is_lt : goal.returns-then-not-is_lt
returns-then-not-is_lt c = (
  λ no. absurd cc,
  λ sorted.
      out_of_order c.args.pages.now c.loop-i.i c.index-pages-i.result c.index-pages-i-in-loop-i.result c.cmp.result c.loop-i.auto.i c.loop-i-test.true c.index-pages-i.is c.index-pages-i-in-loop-i.is
      (c.cmp.ensures ∙ ap (λ (s : Sub). sub_order s c.sub-in-loop-i.result) c.sub.ensures ∙ ap (λ (s : Sub). sub_order c.index-pages-i.result.sub s) c.sub-in-loop-i.ensures)
      (sym c.is_lt.ensures ∙ c.if-not-is_lt.true) sorted,
)

pub returns : goal.returns
returns c = (λ _. ordered c.args.pages.now (λ k page below. c.loop-i.invariant k page (let e = c.loop-i-test.false in omega (arith, e, below))), λ _. refl)
