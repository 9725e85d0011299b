use Rattle.std.proofs.Common.{◌≡◌, ◌≤◌, take}
use Rattle.dcc_connect.specs.inner.Gathers.{within}
use Rattle.dcc_connect.proofs.gathering.Gathered.whole.Given as goal

abbrev pub invariant-loop-end : goal.invariant-loop-end
invariant-loop-end l = record {
  whole : l.whole ≡ within l.count (take l.end-index l.end-items);
  few : l.whole ≤ l.end-index;
}
