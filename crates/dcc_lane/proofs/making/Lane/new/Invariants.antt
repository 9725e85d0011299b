use Rattle.std.proofs.Common.{◌≡◌, ◌≤◌, [], vec_len, vec_capacity}
use Rattle.std.specs.Arc.{arc_value}
use Rattle.crossbeam_queue.specs.Passes.{view, IsPassOf}
use Rattle.dcc_lane.specs.Rule.{receiver}
use Rattle.dcc_lane.specs.Ends.{AreNew}
use Rattle.dcc_lane.proofs.making.Lane.new.Given as goal

abbrev pub invariant-loop-number : goal.invariant-loop-number
invariant-loop-number g l = record {
  tied : IsPassOf (arc_value l.shared).queue l.pass;
  known : view l.pass ≡ receiver l.number [] [];
  made : AreNew l.pass.table_id 0 l.all.items;
  count : vec_len l.all ≡ l.number;
  room : l.senders ≤ vec_capacity l.all;
}
