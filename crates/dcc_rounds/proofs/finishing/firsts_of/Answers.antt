use Rattle.std.proofs.Common.{[], ◌∷◌, ◌++◌, ap, sym, ◌∙◌}
use Rattle.std.specs.Global.{Vec}
use Rattle.dcc_lane.specs.declared.sender.Sender.{Sender}
use Rattle.dcc_rounds.specs.Lanes.{firsts, lists_of, rests}
use Rattle.dcc_rounds.proofs.LaneEnds.{first_none, first_some, rest_on}
use Rattle.dcc_rounds.proofs.finishing.firsts_of.Goals.{in-Some-first_of+in_ok-push, in_default-first_of}
use Rattle.dcc_rounds.proofs.finishing.firsts_of.Goals as goal

pub loop-list-preserved : goal.loop-list-preserved
loop-list-preserved g c =
    let was = c.loop-list.invariant in
    let lists = c.loop-list.lists.items in
    let left = c.first_of.new.list.items in
    let list = c.in-Some.list in
    let behind = c.first_of-in-Some.new.list in
    elim c.match-first_of-2.branch [
      | in-Some-first_of+in_ok-push w ↦ record {
        firsts = first_some c.loop-list.firsts.items c.match-first_of-2.firsts.items lists left list w.in-Some-first_of.sender behind.items (firsts (lists_of c.args.lists.items))
            c.in-Some.ensures w.in-Some-first_of.ensures (ap (λ (v : Vec (Sender g.row.T.Denot)). v.items) w.firsts-is ∙ w.in_ok-push.ensures.items) was.firsts;
        rests = rest_on c.loop-list.rests.items c.push-in-Some.new.self.items lists left list behind (rests (lists_of c.args.lists.items)) c.in-Some.ensures c.in_ok-push-2.ensures.items
            (ap (λ l. rests (l ∷ [])) w.in-Some-first_of.ensures) was.rests;
      }
      | in_default-first_of w ↦ record {
        firsts = ap (λ (v : Vec (Sender g.row.T.Denot)). v.items ++ firsts (lists_of left)) w.firsts-is
            ∙ first_none c.loop-list.firsts.items lists left list (firsts (lists_of c.args.lists.items)) c.in-Some.ensures w.in_default-first_of.ensures.0 was.firsts;
        rests = rest_on c.loop-list.rests.items c.push-in-Some.new.self.items lists left list behind (rests (lists_of c.args.lists.items)) c.in-Some.ensures c.in_ok-push-2.ensures.items
            (ap (λ l. rests (l ∷ [])) w.in_default-first_of.ensures.0 ∙ sym (ap (λ l. l ∷ []) w.in_default-first_of.ensures.1)) was.rests;
      }
    ]
