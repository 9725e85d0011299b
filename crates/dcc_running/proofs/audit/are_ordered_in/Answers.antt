use Rattle.std.proofs.Common.{rules, ◌≡◌, ◌++◌, false, [], List, get_or, sym, ap, ◌∙◌, arith}
use Rattle.std.proofs.lemmas.Grind.{common_steps}
use Rattle.std.proofs.lemmas.List.{get_or_default}
use Rattle.dcc_receipts.specs.Audit.{own, in_order}
use Rattle.dcc_receipts.specs.declared.receipt.Receipt.{Receipt}
use Rattle.dcc_running.specs.Told.{told_of}
use Rattle.dcc_running.proofs.audit.are_ordered_in.Goals as goal

pub returns-then-not-branch-clause-no : goal.returns-then-not-branch-clause-no
returns-then-not-branch-clause-no c = λ _ ordered.
    let w = c.in_ok-is_continued.ensures.no c.if-not-branch.true in
    let here : c.receipts.result.now ≡ get_or c.args.seats.now c.loop-seat.seat [] =
    search rules ∙ get_or_default c.args.seats.now c.loop-seat.seat c.index-seats-seat.result [] c.loop-seat-test.true in
    let was : in_order [] (own w.0 (told_of c.loop-seat.seat c.args.told.now ++ get_or c.args.seats.now c.loop-seat.seat [])) ≡ false =
    ap (λ (xs : List Receipt). in_order [] (own w.0 (told_of c.loop-seat.seat c.args.told.now ++ xs))) (sym here) ∙ w.1 in
    let is = ordered c.loop-seat.seat w.0 in grind (arith, common_steps)
