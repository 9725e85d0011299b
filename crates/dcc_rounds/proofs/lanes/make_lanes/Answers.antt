use Rattle.std.proofs.Common.{◌≡◌, List, [], ◌∷◌, ◌++◌, ◌∙◌, sym, ap, subst, length, length-append, arith}
use Rattle.std.proofs.Math.ListN.{length-map}
use Rattle.std.specs.Global.{Vec}
use Rattle.std.specs.List.{AllByRecursion}
use Rattle.dcc_lane.specs.declared.receiver.Receiver.{Receiver}
use Rattle.dcc_lane.specs.declared.sender.Sender.{Sender}
use Rattle.dcc_rounds.specs.Lanes.{AreDealt, IsNewReceiver, lists_of}
use Rattle.dcc_rounds.proofs.Dealing.{all_push, dealt_all, deal_length}
use Rattle.dcc_rounds.proofs.lanes.make_lanes.Goals as goal

pub loop-alloc-preserved : goal.loop-alloc-preserved
loop-alloc-preserved g c =
    let r = c.in_ok-more.receiver in
    let more = c.in_ok-more.ensures.senders in
    let was = c.loop-alloc.invariant in
    let rs = c.loop-alloc.receivers.items in
    let count : length c.in_ok-more.more.items ≡ c.args.putters = omega arith in
    let long = length-map c.loop-alloc.senders.items (λ (list : Vec (Sender g.row.T.Denot)). list.items) in
    record {
      few = omega (arith, ap length c.in_ok-push.ensures.items, length-append {A = Receiver g.row.T.Denot});
      new = subst (AllByRecursion (IsNewReceiver c.args.putters)) (sym c.in_ok-push.ensures.items) (all_push (IsNewReceiver c.args.putters) rs r was.new (c.in_ok-more.ensures.receiver.0, c.in_ok-more.ensures.receiver.1, c.in_ok-more.ensures.capacity));
      lists = sym (length-map c.in_ok-senders-2.senders.items (λ (list : Vec (Sender g.row.T.Denot)). list.items)) ∙ ap length c.in_ok-senders-2.ensures
          ∙ deal_length (lists_of c.loop-alloc.senders.items) c.in_ok-more.more.items ∙ long ∙ was.lists;
      dealt = subst (λ (all : List (Receiver g.row.T.Denot)). AllByRecursion (AreDealt all) (lists_of c.in_ok-senders-2.senders.items)) (sym c.in_ok-push.ensures.items)
          (subst (AllByRecursion (AreDealt (rs ++ r ∷ []))) (sym c.in_ok-senders-2.ensures)
          (dealt_all rs r 0 (lists_of c.loop-alloc.senders.items) c.in_ok-more.more.items was.dealt more.0 (long ∙ was.lists ∙ sym count)));
    }
