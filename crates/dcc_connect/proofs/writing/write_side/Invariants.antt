use Rattle.std.proofs.Common.{◌+◌, ◌≤◌, length}
use Rattle.dcc_lane.specs.Ends.{IsSameReceiver, taken_of}
use Rattle.dcc_connect.specs.inner.Gathers.{HasCome}
use Rattle.dcc_connect.proofs.writing.write_side.Given as goal

abbrev pub invariant-loop-turn : goal.invariant-loop-turn
invariant-loop-turn g l = record {
  same : IsSameReceiver l.fn.from l.from;
  few : l.progress.ended ≤ l.senders;
  turned : l.turn + l.tally.left ≤ l.turns;
  room : length l.gathered.octets.items ≤ l.tally.left;
  come : HasCome l.progress.fault l.senders l.turns (g.O.Write.contents l.fn.output) (g.O.Write.contents l.output) (taken_of l.fn.from) (taken_of l.from) l.progress
      (record { left = l.tally.left; written = l.tally.written }) l.gathered.octets.items l.gathered.ends.items;
}
