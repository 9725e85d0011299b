use Rattle.std.proofs.Common.{◌≡◌, ◌≤◌, vec_len, vec_capacity}
use Rattle.dcc_lane.specs.Ends.{AreCounts, senders_of}
use Rattle.dcc_lane.proofs.receiver.Receiver.counts.Given as goal

abbrev pub invariant-loop-number : goal.invariant-loop-number
invariant-loop-number g l = record {
  count : vec_len l.all ≡ l.number;
  room : senders_of l.self ≤ vec_capacity l.all;
  counts : AreCounts l.self l.senders l.all.items;
}
