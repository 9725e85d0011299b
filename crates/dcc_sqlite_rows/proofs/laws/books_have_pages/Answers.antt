use Rattle.dcc_sqlite_rows.proofs.Ordered.{of_pages, not_damaged}
use Rattle.dcc_sqlite_rows.proofs.laws.books_have_pages.Goals as goal

pub returns : goal.returns
returns c = record { pages = of_pages c.same_subscribers_are_equal.ensures; whole = not_damaged }
