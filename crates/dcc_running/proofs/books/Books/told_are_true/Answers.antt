use Rattle.std.proofs.Common.{◌≤◌, ◌<◌, ℕ, List, length, get_or, sym, subst, arith}
use Rattle.dcc_act.specs.declared.sub.Sub.{Sub}
use Rattle.dcc_receipts.specs.Audit.{own, times}
use Rattle.dcc_running.specs.Books.{AreShards, BooksView}
use Rattle.dcc_running.specs.declared.lock.Side.{Side}
use Rattle.dcc_running.proofs.Telling.{all_once, all_told, all_true}
use Rattle.dcc_running.proofs.Walks.{one_more}
use Rattle.dcc_running.proofs.books.Books.told_are_true.Goals as goal

pub loop-side-preserved : goal.loop-side-preserved
loop-side-preserved g c =
    let P : Side → Type 0 = λ side. (sub : Sub) (place : ℕ) → times place (own sub side.told.receipts) ≤ 1 in
    one_more P c.deref-side-items.result.now c.loop-side.side-index c.side-item.result c.loop-side-test.true c.side-item.is c.loop-side.invariant c.are_once.ensures

pub returns-clause-all : goal.returns-clause-all
returns-clause-all g c =
    let books = c.self.inside in
    let shards : AreShards books.terms books.identity books.shards.items =
    subst (λ (b : BooksView g.row.R.Denot). AreShards b.terms b.identity b.parts) (sym c.self.view_is) c.requires in
    rw (← c.self.view_is) (all_true g.J.Naming.opening books.terms books.identity books.shards.items shards books.sides.items books.shards.items c.self.invariant.8
    (λ i none within told are. all_told g.J.Naming.opening books.terms books.identity books.shards.items shards i none within told are))

pub returns-clause-once : goal.returns-clause-once
returns-clause-once g c =
    let books = c.self.inside in
    let shards : AreShards books.terms books.identity books.shards.items =
    subst (λ (b : BooksView g.row.R.Denot). AreShards b.terms b.identity b.parts) (sym c.self.view_is) c.requires in
    let items = c.deref-side-items.result.now in
    let same = c.deref-side-items.ensures.value in
    let most : (i : ℕ) (side : Side) → i < length books.sides.items → (sub : Sub) (place : ℕ) → times place (own sub (get_or books.sides.items i side).told.receipts) ≤ 1 =
    subst (λ (sides : List Side). (i : ℕ) (side : Side) → i < length sides → (sub : Sub) (place : ℕ) → times place (own sub (get_or sides i side).told.receipts) ≤ 1) same
    (λ i side within. c.loop-side.invariant i side (omega (arith, within, c.loop-side-test.false))) in
    rw (← c.self.view_is) (all_once c.same_subscribers_are_equal.ensures g.J.Naming.opening books.terms books.identity books.shards.items shards
    books.sides.items (omega (arith, c.self.invariant.7, books.sides.ok.0, books.shards.ok.0)) c.self.invariant.8 most)
