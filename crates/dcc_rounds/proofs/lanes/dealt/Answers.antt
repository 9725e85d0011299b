use Rattle.std.proofs.Common.{ap, ◌∙◌}
use Rattle.std.specs.Global.{Vec}
use Rattle.dcc_lane.specs.declared.sender.Sender.{Sender}
use Rattle.dcc_rounds.specs.Lanes.{deal, lists_of}
use Rattle.dcc_rounds.proofs.Dealing.{deal_next, deal_past}
use Rattle.dcc_rounds.proofs.lanes.dealt.Goals.{in-Some-first_of+in_ok-push, in_default-first_of}
use Rattle.dcc_rounds.proofs.lanes.dealt.Goals as goal

pub loop-list-preserved : goal.loop-list-preserved
loop-list-preserved g c =
    elim c.match-first_of-2.branch [
      | in-Some-first_of+in_ok-push w ↦ deal_next c.loop-list.dealt.items c.push-in-Some.new.self.items c.loop-list.lists.items c.first_of.new.list.items c.in-Some.list
          c.match-first_of-2.list c.loop-list.senders.items c.first_of-in-Some.new.list.items w.in-Some-first_of.sender (deal (lists_of c.args.lists.items) c.args.senders.items)
          c.in-Some.ensures c.in_ok-push-2.ensures.items w.in-Some-first_of.ensures
          (ap (λ (list : Vec (Sender g.row.T.Denot)). list.items) w.list-is ∙ w.in_ok-push.ensures.items) c.loop-list.invariant
      | in_default-first_of w ↦ deal_past c.loop-list.dealt.items c.push-in-Some.new.self.items c.loop-list.lists.items c.first_of.new.list.items c.in-Some.list
          c.match-first_of-2.list c.loop-list.senders.items c.first_of-in-Some.new.list.items (deal (lists_of c.args.lists.items) c.args.senders.items)
          c.in-Some.ensures c.in_ok-push-2.ensures.items w.in_default-first_of.ensures.0 w.in_default-first_of.ensures.1 w.list-is c.loop-list.invariant
    ]
