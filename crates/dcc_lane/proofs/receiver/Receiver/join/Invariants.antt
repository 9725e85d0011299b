use Rattle.std.proofs.Common.{◌≡◌, ◌++◌, map, vec_len}
use Rattle.std.specs.List.{All}
use Rattle.std.specs.Arc.{arc_value}
use Rattle.crossbeam_queue.specs.Passes.{view, IsPassOf}
use Rattle.dcc_lane.specs.Rule.{receiver}
use Rattle.dcc_lane.specs.Ends.{lane_of, taken_of, senders_of, left_by, IsOfLane}
use Rattle.dcc_lane.proofs.receiver.Receiver.join.Given as goal

abbrev pub invariant-loop-senders : goal.invariant-loop-senders
invariant-loop-senders g l = record {
  tied : IsPassOf (arc_value l.shared).queue l.pass;
  lane : l.pass.table_id ≡ lane_of l.fn.self;
  known : view l.pass ≡ receiver (senders_of l.fn.self) (taken_of l.fn.self) (view l.pass).ended;
  mine : All (IsOfLane (lane_of l.fn.self)) l.senders.items;
  all : map left_by l.fn.senders.items ≡ (view l.pass).ended ++ map left_by l.senders.items;
}

abbrev pub decreases-loop-senders : goal.decreases-loop-senders
decreases-loop-senders g l = vec_len l.senders
