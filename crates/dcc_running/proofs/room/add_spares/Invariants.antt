use Rattle.std.proofs.Common.{◌≤◌, length}
use Rattle.dcc_running.proofs.room.add_spares.Given as goal

abbrev pub invariant-loop-at : goal.invariant-loop-at
invariant-loop-at l = l._at ≤ length l.spares.items
