use Rattle.std.proofs.Common.{◌≡◌, ℕ, ◌+◌, ◌<◌, get_or}
use Rattle.sqlite.specs.Order.{Row}
use Rattle.dcc_act.specs.declared.entry.Entry.{Entry}
use Rattle.dcc_sqlite_rows.specs.Rows.{sub_octets, entry_row}
use Rattle.dcc_sqlite_rows.proofs.entries.begin_with.Given as goal

abbrev pub invariant-loop-i : goal.invariant-loop-i
invariant-loop-i l = (k : ℕ) (r : Row) (e : Entry) → k < l.i → get_or l.rows k r ≡ entry_row (sub_octets l.sub) l.place (k + 1) (get_or l.entries k e)
