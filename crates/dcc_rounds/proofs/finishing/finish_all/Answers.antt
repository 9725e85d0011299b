use Rattle.std.proofs.Common.{List, map, sym, subst}
use Rattle.std.specs.List.{All}
use Rattle.dcc_lane.specs.Ends.{IsOfLane, lane_of}
use Rattle.dcc_lane.specs.declared.receiver.Receiver.{Receiver}
use Rattle.dcc_lane.specs.declared.sender.Sender.{Sender}
use Rattle.dcc_rounds.specs.Lanes.{AreAllHeard, AreOfLanes, IsHeard, firsts, lanes_of, lists_of}
use Rattle.dcc_rounds.proofs.LaneEnds.{of_first}
use Rattle.dcc_rounds.proofs.finishing.finish_all.Goals as goal

pub finish-requires : goal.finish-requires
finish-requires g c =
    let lists = lists_of c.loop-receiver.senders.items in
    let lane = lane_of c.in-Some.receiver in
    let tied = subst (λ (rs : List (Receiver g.row.T.Denot)). AreOfLanes (map lane_of rs) (map lanes_of lists)) c.in-Some.ensures c.loop-receiver.invariant.tied in
    subst (All (IsOfLane lane)) (sym c.in_ok-firsts.ensures.firsts) (of_first lane (map lane_of c.first_of.new.list.items) lists tied).0

pub loop-receiver-preserved : goal.loop-receiver-preserved
loop-receiver-preserved g c =
    let lists = lists_of c.loop-receiver.senders.items in
    let r = c.in-Some.receiver in
    let left = c.first_of.new.list.items in
    let tied = subst (λ (rs : List (Receiver g.row.T.Denot)). AreOfLanes (map lane_of rs) (map lanes_of lists)) c.in-Some.ensures c.loop-receiver.invariant.tied in
    let heard : IsHeard r (firsts lists) = subst (IsHeard r) c.in_ok-firsts.ensures.firsts c.in_ok-finish.ensures.heard in
    record {
      tied = subst (λ (ls : List (List (Sender g.row.T.Denot))). AreOfLanes (map lane_of left) (map lanes_of ls)) (sym c.in_ok-firsts.ensures.rests)
          (of_first (lane_of r) (map lane_of left) lists tied).1;
      left = λ more. c.loop-receiver.invariant.left
          (subst (λ (rs : List (Receiver g.row.T.Denot)). AreAllHeard rs lists) (sym c.in-Some.ensures) (heard, subst (AreAllHeard left) c.in_ok-firsts.ensures.rests more));
    }

pub returns-clause-heard : goal.returns-clause-heard
returns-clause-heard g c =
    c.loop-receiver.invariant.left
    (subst (λ (rs : List (Receiver g.row.T.Denot)). AreAllHeard rs (lists_of c.loop-receiver.senders.items)) (sym c.in_default.ensures.0) tt)
