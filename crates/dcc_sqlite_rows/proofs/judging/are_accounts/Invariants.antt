use Rattle.std.proofs.Common.{◌≡◌, ℕ, ◌<◌, get_or}
use Rattle.sqlite.specs.Order.{Row}
use Rattle.dcc_store.specs.Books.{PageView}
use Rattle.dcc_sqlite_rows.specs.declared.tally.Tally.{Tally}
use Rattle.dcc_sqlite_rows.specs.Rows.{sub_octets, account_row}
use Rattle.dcc_sqlite_rows.proofs.judging.are_accounts.Given as goal

abbrev pub invariant-loop-i : goal.invariant-loop-i
invariant-loop-i l = (k : ℕ) (r : Row) (p : PageView) (t : Tally) → k < l.i
    → get_or l.accounts k r ≡ account_row (sub_octets (get_or l.pages k p).sub) (get_or l.tallies k t).acts (get_or l.tallies k t).funds
