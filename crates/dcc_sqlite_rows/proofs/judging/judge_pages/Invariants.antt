use Rattle.std.proofs.Common.{◌≡◌, ◌≤◌, length, map, take}
use Rattle.std.specs.List.{AllByRecursion}
use Rattle.dcc_sqlite_rows.specs.Pages.{IsOwn, book_entry_rows}
use Rattle.dcc_sqlite_rows.specs.Tallies.{tally_of}
use Rattle.dcc_sqlite_rows.proofs.judging.judge_pages.Given as goal

abbrev pub invariant-loop-i : goal.invariant-loop-i
invariant-loop-i l = record {
  own : AllByRecursion (IsOwn l.terms) (take l.i l.pages);
  within : l.at ≤ length l.entries;
  rows : take l.at l.entries ≡ book_entry_rows l.terms (take l.i l.pages);
  tallies : l.tallies.items ≡ map (tally_of l.terms) (take l.i l.pages);
}
