use Rattle.std.proofs.Common.{◌++◌, ◌∷◌, [], ◌∙◌, ap, arith}
use Rattle.dcc_lane.specs.Ends.{lane_of_sender, put_of}
use Rattle.dcc_rounds.specs.Lanes.{all_put, put_into}
use Rattle.dcc_rounds.proofs.Putting.{put_at, put_nothing, put_past, same_lanes}
use Rattle.dcc_rounds.proofs.lanes.leave_in.Goals as goal

pub returns-then-index-len-clause-put : goal.returns-then-index-len-clause-put
returns-then-index-len-clause-put g c = put_past c.args.lanes.now.items c.args.index c.args.item (omega arith)

pub returns-in-Err-clause-put : goal.returns-in-Err-clause-put
returns-in-Err-clause-put g c =
    let same = put_nothing c.args.lanes.now.items c.args.index c.try_leave.new.self c.index_mut.result.now (omega arith) (c.in-Err.ensures.err.1 ∙ ap put_of c.index_mut.ensures.value) in
    c.put_into.ensures.put ∙ ap (λ lanes. put_into c.args.index c.in-Err.item lanes) same ∙ ap (λ item. put_into c.args.index item (all_put c.args.lanes.now.items)) c.in-Err.ensures.err.0

pub returns-in_default-clause-put : goal.returns-in_default-clause-put
returns-in_default-clause-put g c =
    put_at c.args.lanes.now.items c.args.index c.try_leave.new.self c.index_mut.result.now c.args.item (omega arith)
    (c.in_default.ensures.ok ∙ ap (λ s. put_of s ++ c.args.item ∷ []) c.index_mut.ensures.value)

pub returns-in-Err-clause-lanes : goal.returns-in-Err-clause-lanes
returns-in-Err-clause-lanes g c =
    c.put_into.ensures.lanes
    ∙ same_lanes c.args.lanes.now.items c.args.index c.try_leave.new.self c.index_mut.result.now (omega arith) (c.in-Err.ensures.same.0 ∙ ap lane_of_sender c.index_mut.ensures.value)

pub returns-in_default-clause-lanes : goal.returns-in_default-clause-lanes
returns-in_default-clause-lanes g c =
    same_lanes c.args.lanes.now.items c.args.index c.try_leave.new.self c.index_mut.result.now (omega arith) (c.in_default.ensures.same.0 ∙ ap lane_of_sender c.index_mut.ensures.value)
