use Rattle.std.proofs.Common.{ap, sym, rules, arith, subst, ◌≡◌, ◌<◌, ◌++◌, ◌∷◌, [], ◌∙◌, length, map}
use Rattle.std.proofs.lemmas.List.{append-nil, nil_from_length}
use Rattle.std.specs.List.{All}
use Rattle.std.proofs.lemmas.List.Elements.{All-drop}
use Rattle.crossbeam_queue.specs.Passes.{view}
use Rattle.dcc_lane.specs.Rule.{AreBegun}
use Rattle.dcc_lane.specs.Ends.{left_by, lane_of, taken_of, IsOfLane}
use Rattle.dcc_lane.proofs.Moves.{joins, compares}
use Rattle.dcc_lane.proofs.Ending.{first_off, all_begun, joined_view, moved}
use Rattle.dcc_lane.proofs.receiver.Receiver.join.Goals as goal

pub absorb-requires-clause-rule : goal.absorb-requires-clause-rule
absorb-requires-clause-rule g c = joins _ _ _ _ (ap (λ v. v.receives) c.loop-senders.invariant.known) (ap (λ v. v.sends) c.remove-end.result.known)

pub loop-senders-preserved : goal.loop-senders-preserved
loop-senders-preserved g c =
    let s = c.remove-end.result in
    let v = view c.loop-senders.pass in
    let old = c.loop-senders.senders.items in
    let some_left : 0 < length old = omega arith in
    let first : map left_by old ≡ left_by s ∷ map left_by c.remove-end.new.self.items = first_off left_by old s some_left c.remove-end.ensures.value ∙ ap (λ l. left_by s ∷ map left_by l) (sym c.remove-end.ensures.items) in
    let rule = c.absorb.ensures.rule in
    let number = ap (λ w. w.number) s.known in
    record {
      tied = search rules;
      lane = search rules;
      known = joined_view _ _ _ _ _ rule c.loop-senders.invariant.known;
      mine = subst (All (IsOfLane (lane_of c.args.self))) (sym c.remove-end.ensures.items) (All-drop (IsOfLane (lane_of c.args.self)) 1 old c.loop-senders.invariant.mine);
      all = c.loop-senders.invariant.all ∙ (ap (λ l. v.ended ++ l) first ∙ moved v.ended (left_by s) _ _ _ (ap (λ w. w.ended) rule) number);
    }

pub learn_as-requires-clause-rule : goal.learn_as-requires-clause-rule
learn_as-requires-clause-rule g c = compares _ _ (ap (λ v. v.receives) c.loop-senders.invariant.known)

pub returns : goal.returns
returns g c =
    let v = view c.loop-senders.pass in
    let none : c.loop-senders.senders.items ≡ [] = nil_from_length c.loop-senders.senders.items (omega arith) in
    let ended : map left_by c.args.senders.items ≡ v.ended = c.loop-senders.invariant.all ∙ (ap (λ l. v.ended ++ map left_by l) none ∙ append-nil v.ended) in
    let taken : v.taken ≡ taken_of c.args.self = ap (λ w. w.taken) c.loop-senders.invariant.known in
    all_begun (taken_of c.args.self) c.args.senders.items (subst (λ l. AreBegun (taken_of c.args.self) l) (sym ended) (subst (λ l. AreBegun l v.ended) taken c.learn_as.ensures.rule.1))
