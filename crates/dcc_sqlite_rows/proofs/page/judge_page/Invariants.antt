use Rattle.std.proofs.Common.{◌≡◌, ◌≤◌, length, take}
use Rattle.dcc_sqlite_rows.specs.Rows.{sub_octets}
use Rattle.dcc_sqlite_rows.specs.Pages.{entry_rows_to}
use Rattle.dcc_sqlite_rows.proofs.page.judge_page.Given as goal

abbrev pub invariant-loop-i : goal.invariant-loop-i
invariant-loop-i l = record {
  terms : l.account.terms ≡ l.terms;
  acts : l.account.acts ≡ take l.i l.acts;
  within : l.at ≤ length l.rows;
  rows : take l.at l.rows ≡ entry_rows_to l.terms (sub_octets l.sub) l.acts l.i;
}
