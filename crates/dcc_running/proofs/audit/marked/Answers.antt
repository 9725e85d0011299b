use Rattle.std.proofs.Common.{◌≡◌, List, get_or, sym, ap, ◌∙◌, arith}
use Rattle.std.proofs.lemmas.List.Sums.{sum_by_more, sum_by_more_le}
use Rattle.dcc_receipts.specs.Audit.{own, times}
use Rattle.dcc_receipts.specs.declared.receipt.Receipt.{Receipt}
use Rattle.dcc_running.proofs.Telling.{still_apart, times_both}
use Rattle.dcc_running.proofs.audit.marked.Goals as goal

pub returns-then-not-branch-clause-none : goal.returns-then-not-branch-clause-none
returns-then-not-branch-clause-none c =
    let w = c.in_ok-add_all.ensures.double c.if-not-branch.true in
    let f = λ (receipts : List Receipt). times w.1 (own w.0 receipts) in
    let here : f (get_or c.args.seats.now c.loop-seat.seat-index c.seat-item.result) ≡ f c.deref-in-loop-seat.result.now =
    ap f (sym (c.deref-in-loop-seat.ensures.value ∙ (c.seat.view_is ∙ c.seat-item.is))) in
    let le = sum_by_more_le f c.args.seats.now c.loop-seat.seat-index c.seat-item.result c.loop-seat-test.true in
    let so_far = c.loop-seat.invariant.marked w.0 w.1 in
    let all = times_both w.0 w.1 c.args.sides.now c.args.seats.now in
    (w.0, w.1, omega (arith, w.2, here, le, so_far, all))

pub returns-then-is_any_told-clause-none : goal.returns-then-is_any_told-clause-none
returns-then-is_any_told-clause-none c =
    let w = c.is_any_told.ensures.yes c.if-is_any_told.true in
    let f = λ (receipts : List Receipt). times w.1 (own w.0 receipts) in
    let here : f (get_or c.args.seats.now c.loop-seat.seat-index c.seat-item.result) ≡ f c.deref.result.now =
    ap f (sym (c.deref.ensures.value ∙ (c.seat.view_is ∙ c.seat-item.is))) in
    let le = sum_by_more_le f c.args.seats.now c.loop-seat.seat-index c.seat-item.result c.loop-seat-test.true in
    let all = times_both w.0 w.1 c.args.sides.now c.args.seats.now in
    (w.0, w.1, omega (arith, w.2, w.3, here, le, all))

pub loop-seat-preserved : goal.loop-seat-preserved
loop-seat-preserved c = record {
  marked = λ sub place.
      let f = λ (receipts : List Receipt). times place (own sub receipts) in
      let here : f (get_or c.args.seats.now c.loop-seat.seat-index c.seat-item.result) ≡ f c.deref-in-loop-seat.result.now =
      ap f (sym (c.deref-in-loop-seat.ensures.value ∙ (c.seat.view_is ∙ c.seat-item.is))) in
      let more = sum_by_more f c.args.seats.now c.loop-seat.seat-index c.seat-item.result c.loop-seat-test.true in
      let so_far = c.loop-seat.invariant.marked sub place in
      let added = c.in_ok-add_all.ensures.single c.if-not-branch.false sub place in
      omega (arith, here, more, so_far, added);
  apart = still_apart c.args.sides.now c.args.seats.now c.loop-seat.seat-index c.seat-item.result c.loop-seat-test.true c.seat-item.is c.loop-seat.invariant.apart
      (λ sub place some. c.is_any_told.ensures.no c.if-is_any_told.false sub place
      (rw (c.deref.ensures.value, c.seat.view_is) some));
}
