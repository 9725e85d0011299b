use Rattle.dcc_sqlite_rows.proofs.OldRows.{reads_by, of_old_pages, old_not_damaged}
use Rattle.dcc_sqlite_rows.proofs.laws.old_books_have_pages.Goals as goal

pub returns : goal.returns
returns c = record { pages = of_old_pages (reads_by c.records_differ.ensures.one c.old_records_differ.ensures.one) c.same_subscribers_are_equal.ensures; whole = old_not_damaged }
