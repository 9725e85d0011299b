use Rattle.std.proofs.Common.{◌≡◌, true, take}
use Rattle.std.specs.List.{list_all}
use Rattle.dcc_running.specs.Audited.{is_true}
use Rattle.dcc_running.specs.Books.{book}
use Rattle.dcc_running.proofs.audit.are_true_of.Given as goal

abbrev pub invariant-loop-receipt : goal.invariant-loop-receipt
invariant-loop-receipt g l =
    list_all (is_true l.books.identity l.books.terms g.J.Naming.opening (book l.books.parts)) (take l.receipt-index l.receipts) ≡ true
