use Rattle.std.proofs.Common.{ℕ, ◌<◌, get_or}
use Rattle.dcc_running.specs.Audited.{IsOrderedIn}
use Rattle.dcc_running.specs.declared.lock.Side.{Side}
use Rattle.dcc_running.proofs.audit.are_ordered.Given as goal

abbrev pub invariant-loop-side : goal.invariant-loop-side
invariant-loop-side l = (i : ℕ) (none : Side) → i < l.side-index → IsOrderedIn (get_or l.sides i none).told l.seats
