use Rattle.dcc_running.proofs.Telling.{uncovered}
use Rattle.dcc_running.proofs.audit.are_covered.Goals as goal

pub returns-then-not-are_all_covered-clause-no : goal.returns-then-not-are_all_covered-clause-no
returns-then-not-are_all_covered-clause-no g c = λ _ covered.
    let w = c.are_all_covered.ensures.no c.if-not-are_all_covered.true in
    uncovered c.args.marks.now c.args.books.now.sides c.args.seats.now w.0 w.1 c.requires.marked w.4 (covered w.0 w.1 w.2 w.3)
