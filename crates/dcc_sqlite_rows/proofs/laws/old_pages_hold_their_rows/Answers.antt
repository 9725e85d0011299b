use Rattle.dcc_sqlite_rows.proofs.OldRows.{reads_by, old_acts_held, old_pages_fit, are_pages}
use Rattle.dcc_sqlite_rows.proofs.laws.old_pages_hold_their_rows.Goals as goal

pub returns : goal.returns
returns c = record {
  acts = old_acts_held (reads_by c.records_differ.ensures.one c.old_records_differ.ensures.one) c.same_subscribers_are_equal.ensures;
  fit = old_pages_fit;
  pages = are_pages;
}
