use Rattle.std.proofs.Common.{◌≡◌, ◌↔◌, true, [], map, ◌++◌}
use Rattle.std.specs.List.{AllByRecursion}
use Rattle.std.specs.Vec.Iter.{into_iter_items}
use Rattle.dcc_sqlite_rows.specs.Pages.{IsPage, book_act_rows}
use Rattle.dcc_sqlite_rows.specs.Stored.{line_row}
use Rattle.dcc_sqlite_rows.proofs.Groups.{grouped}
use Rattle.dcc_sqlite_rows.proofs.grouping.book_of.Given as goal

abbrev pub invariant-loop-line : goal.invariant-loop-line
invariant-loop-line l = record {
  all : l.yielded ++ into_iter_items l.line-iterator ≡ l.fn.lines.items;
  pages : l.pages.items ≡ grouped [] l.yielded;
  valid : AllByRecursion IsPage l.pages.items;
  fits : l.fits ≡ true ↔ map line_row l.yielded ≡ book_act_rows l.pages.items;
}
