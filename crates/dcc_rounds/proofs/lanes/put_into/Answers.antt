use Rattle.std.proofs.Common.{◌++◌, ◌∷◌, [], ◌∙◌, ap, arith}
use Rattle.dcc_lane.specs.Ends.{lane_of_sender, put_of}
use Rattle.dcc_rounds.proofs.Putting.{put_at, put_past, same_lanes}
use Rattle.dcc_rounds.proofs.lanes.put_into.Goals as goal

pub returns-then-index-len-clause-put : goal.returns-then-index-len-clause-put
returns-then-index-len-clause-put g c = put_past c.args.lanes.now.items c.args.index c.args.item (omega arith)

pub returns-clause-put : goal.returns-clause-put
returns-clause-put g c =
    put_at c.args.lanes.now.items c.args.index c.put.new.self c.index_mut.result.now c.args.item (omega arith)
    (c.put.ensures.put ∙ ap (λ s. put_of s ++ c.args.item ∷ []) c.index_mut.ensures.value)

pub returns-clause-lanes : goal.returns-clause-lanes
returns-clause-lanes g c =
    same_lanes c.args.lanes.now.items c.args.index c.put.new.self c.index_mut.result.now (omega arith) (c.put.ensures.same.0 ∙ ap lane_of_sender c.index_mut.ensures.value)
