use Rattle.std.proofs.Common.{◌≡◌, ap, sym, ◌∙◌, true, false, not, arith}
use Rattle.std.proofs.lemmas.List.Filters.{FiltersInPlace-more_swap, FiltersInPlace-more_no}
use Rattle.std.proofs.lemmas.List.Sorted.{sum_by-IsPermutation}
use Rattle.dcc_state.specs.Known.{prices_of}
use Rattle.dcc_state.specs.OpenSessions.{is_over_at}
use Rattle.dcc_state.proofs.open_session.gather_open.Goals as goal

pub loop-at-preserved : goal.loop-at-preserved
loop-at-preserved c =
    let seen = c.index-sessions-at.result in
    let test : is_over_at c.args.moment seen ≡ c.is_over.result = ap (is_over_at c.args.moment) c.index-sessions-at.is ∙ sym c.is_over.ensures in
    elim c.if-not-is_over.branch [
      | goal.then-not-is_over w ↦
          let stays : not (is_over_at c.args.moment seen) ≡ true = ap not (test ∙ w.if-not-is_over.true) in
          rw (w.sessions-is, w.kept-is) (record {
            front = FiltersInPlace-more_swap {x = seen} c.loop-at.invariant.front (omega arith) stays c.index-sessions-at.is w.swap.ensures.by_index;
            held = sum_by-IsPermutation prices_of _ _ w.swap.ensures.permutation ∙ c.loop-at.invariant.held;
          })
      | goal.else-not-is_over w ↦
          let ends : not (is_over_at c.args.moment seen) ≡ false = ap not (test ∙ w.if-not-is_over.false) in
          rw (w.sessions-is, w.kept-is) (record {
            front = FiltersInPlace-more_no {x = seen} c.loop-at.invariant.front (omega arith) ends c.index-sessions-at.is;
            held = c.loop-at.invariant.held;
          })
    ]
