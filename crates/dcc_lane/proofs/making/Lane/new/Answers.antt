use Rattle.std.proofs.Common.{ap, sym, rules, arith, ◌∙◌, ◌≡◌, get_or, length, subst}
use Rattle.dcc_lane.proofs.Moves.{begins, splits}
use Rattle.dcc_lane.specs.Ends.{AreNew}
use Rattle.dcc_lane.specs.Rule.{of, IsIn}
use Rattle.dcc_lane.proofs.Fresh.{AreNew-push, all_new}
use Rattle.std.proofs.lemmas.Grind.{common_steps}
use Rattle.dcc_lane.proofs.making.Lane.new.Goals as goal

pub ruled-requires-clause-rule : goal.ruled-requires-clause-rule
ruled-requires-clause-rule g c = begins

pub another-end-requires-clause-rule : goal.another-end-requires-clause-rule
another-end-requires-clause-rule g c = splits _ _ (ap (λ v. v.receives) c.loop-number.invariant.known)

pub loop-number-preserved : goal.loop-number-preserved
loop-number-preserved g c = record {
  tied = search rules;
  known = search rules;
  made = subst (λ ss. AreNew c.another-end.new.pass.table_id 0 ss) (sym c.push_reserved.ensures.items) (AreNew-push _ 0 c.loop-number.all.items _ (subst (λ n. AreNew n 0 c.loop-number.all.items) (sym c.another-end.ensures.queue.0.0) c.loop-number.invariant.made) (search rules) (omega arith) (search rules));
  count = search rules;
  room = search rules;
}

pub invariant_of-receiver-clause-counted : goal.invariant_of-receiver-clause-counted
invariant_of-receiver-clause-counted g c k l =
    let a : get_or c.in_ok-taken.taken.items k 0 ≡ 0 = grind (arith, common_steps) in
    a ∙ sym (ap (λ v. length (of k v.taken)) c.loop-number.invariant.known)

pub returns-clause-of_lane : goal.returns-clause-of_lane
returns-clause-of_lane g c = all_new c.loop-number.pass.table_id 0 c.loop-number.all.items c.loop-number.invariant.made

pub invariant_of-receiver-clause-numbered : goal.invariant_of-receiver-clause-numbered
invariant_of-receiver-clause-numbered g c t i = absurd (subst (IsIn t) (ap (λ v. v.taken) c.loop-number.invariant.known) i)
