use Rattle.std.proofs.Common.{All, take}
use Rattle.dcc_sqlite_rows.specs.Stored.{IsOfSub}
use Rattle.dcc_sqlite_rows.proofs.line.are_of_subs.Given as goal

abbrev pub invariant-loop-row : goal.invariant-loop-row
invariant-loop-row l = All IsOfSub (take l.row-index l.rows)
