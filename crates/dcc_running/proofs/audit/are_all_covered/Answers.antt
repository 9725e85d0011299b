use Rattle.std.proofs.Common.{◌<◌, ◌≤◌, ℕ, length}
use Rattle.dcc_act.specs.declared.sub.Sub.{Sub}
use Rattle.dcc_running.specs.inner.Marked.{IsCovered}
use Rattle.dcc_running.specs.Books.{book}
use Rattle.dcc_running.proofs.Covering.{next_among}
use Rattle.dcc_running.proofs.audit.are_all_covered.Goals as goal

pub loop-sub-preserved : goal.loop-sub-preserved
loop-sub-preserved g c = λ sub place among low high.
    let P : Sub → Type 0 = λ one. (at : ℕ) → length (g.J.Naming.opening one) < at → at ≤ length (book c.args.books.now.parts one) → IsCovered c.args.marks.now c.args.books.now.sides one at in
    next_among c.same_subscribers_are_equal.ensures P c.args.subs.now c.loop-sub.sub-index c.sub-item.result c.loop-sub-test.true c.sub-item.is
    (λ one earlier at lower upper. c.loop-sub.invariant one at earlier lower upper) (c.is_covered.ensures.yes c.if-not-is_covered.false) sub among place low high
