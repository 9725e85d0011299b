use Rattle.std.proofs.Common.{ℕ, ◌<◌, ◌++◌, [], get_or}
use Rattle.dcc_running.specs.Audited.{IsOrdered}
use Rattle.dcc_running.specs.Told.{told_of}
use Rattle.dcc_running.proofs.audit.are_ordered_in.Given as goal

abbrev pub invariant-loop-seat : goal.invariant-loop-seat
invariant-loop-seat l = (seat : ℕ) → seat < l.seat → IsOrdered (told_of seat l.told ++ get_or l.seats seat [])
