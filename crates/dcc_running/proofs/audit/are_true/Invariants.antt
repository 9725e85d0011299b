use Rattle.std.proofs.Common.{◌≡◌, true, take}
use Rattle.dcc_running.specs.Audited.{are_true}
use Rattle.dcc_running.specs.Books.{book}
use Rattle.dcc_running.proofs.audit.are_true.Given as goal

abbrev pub invariant-loop-seat : goal.invariant-loop-seat
invariant-loop-seat g l =
    are_true l.books.identity l.books.terms g.J.Naming.opening (book l.books.parts) (take l.seat-index l.seats) ≡ true
