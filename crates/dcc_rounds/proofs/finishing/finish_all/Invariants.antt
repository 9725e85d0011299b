use Rattle.std.proofs.Common.{map, vec_len}
use Rattle.dcc_lane.specs.Ends.{lane_of}
use Rattle.dcc_rounds.specs.Lanes.{AreAllHeard, AreOfLanes, lanes_of, lists_of}
use Rattle.dcc_rounds.proofs.finishing.finish_all.Given as goal

abbrev pub decreases-loop-receiver : goal.decreases-loop-receiver
decreases-loop-receiver g l = vec_len l.receivers

abbrev pub invariant-loop-receiver : goal.invariant-loop-receiver
invariant-loop-receiver g l = record {
  tied : AreOfLanes (map lane_of l.receivers.items) (map lanes_of (lists_of l.senders.items));
  left : AreAllHeard l.receivers.items (lists_of l.senders.items) → AreAllHeard l.fn.receivers.items (lists_of l.fn.senders.items);
}
