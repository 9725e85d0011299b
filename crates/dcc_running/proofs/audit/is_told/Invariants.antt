use Rattle.std.proofs.Common.{◌≡◌, ℕ, ◌<◌, get_or}
use Rattle.dcc_receipts.specs.Audit.{own, times}
use Rattle.dcc_running.specs.declared.lock.Side.{Side}
use Rattle.dcc_running.proofs.audit.is_told.Given as goal

abbrev pub invariant-loop-side : goal.invariant-loop-side
invariant-loop-side l = (i : ℕ) (none : Side) → i < l.side-index → times l.place (own l.sub (get_or l.sides i none).told.receipts) ≡ 0
