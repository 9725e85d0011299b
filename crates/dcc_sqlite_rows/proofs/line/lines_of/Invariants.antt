use Rattle.std.proofs.Common.{◌≡◌, All, map, take}
use Rattle.dcc_sqlite_rows.specs.Pages.{IsSub}
use Rattle.dcc_sqlite_rows.specs.inner.Versions.{HasBody, row_of}
use Rattle.dcc_sqlite_rows.proofs.line.lines_of.Given as goal

abbrev pub invariant-loop-row : goal.invariant-loop-row
invariant-loop-row l = record {
  lines : take l.row-index l.rows ≡ map (row_of l.version) l.lines.items;
  subs : All (λ line. IsSub line.sub) l.lines.items;
  fit : All (λ line. HasBody l.version line.act) l.lines.items;
}
