use Rattle.dcc_sqlite_rows.proofs.Held.{acts_held, entries_held, accounts_held, makes_a_book, pages_fit, of_subs}
use Rattle.dcc_sqlite_rows.proofs.laws.pages_hold_their_rows.Goals as goal

pub returns : goal.returns
returns c = record {
  acts = acts_held c.same_subscribers_are_equal.ensures;
  entries = entries_held c.same_subscribers_are_equal.ensures;
  accounts = accounts_held c.same_subscribers_are_equal.ensures;
  book = makes_a_book c.leaving_out_changes_nothing.ensures.none;
  fit = pages_fit;
  subs = of_subs c.same_subscribers_are_equal.ensures;
}
