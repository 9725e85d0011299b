use Rattle.std.proofs.Common.{take}
use Rattle.std.specs.List.{AllByRecursion}
use Rattle.dcc_sqlite_rows.specs.Pages.{IsOwn}
use Rattle.dcc_sqlite_rows.proofs.judging.are_own.Given as goal

abbrev pub invariant-loop-page : goal.invariant-loop-page
invariant-loop-page l = AllByRecursion (IsOwn l.terms) (take l.page-index l.pages)
