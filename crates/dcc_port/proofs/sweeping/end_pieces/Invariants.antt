use Rattle.std.proofs.Common.{length, ◌-◌, ◌≤◌}
use Rattle.dcc_port.proofs.Pieces.{Begun}
use Rattle.dcc_port.proofs.sweeping.end_pieces.Given as goal

abbrev pub invariant-loop-at : goal.invariant-loop-at
invariant-loop-at g l = record {
  within : l.at ≤ length l.subs;
  begun : Begun l.moment l.subs l.at l.fn.seat (l.seat, l.tally);
}

abbrev pub decreases-loop-at : goal.decreases-loop-at
decreases-loop-at g l = length l.subs - l.at
