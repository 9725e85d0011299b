use Rattle.std.proofs.Common.{◌↔◌, length}
use Rattle.dcc_sqlite_store.specs.inner.Rowids.{AreAbove}
use Rattle.dcc_sqlite_store.proofs.rising.are_above.Given as goal

abbrev pub invariant-loop-rest : goal.invariant-loop-rest
invariant-loop-rest l = AreAbove l.fn.rows l.fn.low ↔ AreAbove l.rest l.last

abbrev pub decreases-loop-rest : goal.decreases-loop-rest
decreases-loop-rest l = length l.rest
