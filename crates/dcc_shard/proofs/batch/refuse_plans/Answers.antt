use Rattle.std.proofs.Common.{List, rules, sym, subst, ◌++◌, ◌∷◌, []}
use Rattle.std.specs.List.{AllZip}
use Rattle.dcc_shard.specs.declared.call.Reply.{Reply}
use Rattle.dcc_shard.specs.inner.Plans.{IsInstead}
use Rattle.dcc_shard.proofs.Planning.{taken, zip_more}
use Rattle.dcc_shard.proofs.batch.refuse_plans.Goals as goal

pub loop-plan-preserved : goal.loop-plan-preserved
loop-plan-preserved c =
    let identity = c.args.identity.now in
    let P : List Reply → Type 0 = λ all. AllZip (IsInstead identity c.args.going) (c.loop-plan.yielded ++ c.in-Some.plan ∷ []) all in
    record {
      all = taken c.loop-plan.yielded _ _ _ c.in-Some.plan c.loop-plan.invariant.all c.in-Some.ensures.steps.0;
      room = search rules;
      instead = subst P (sym c.push_reserved.ensures.items)
          (zip_more (IsInstead identity c.args.going) c.loop-plan.yielded c.loop-plan.replies.items c.in-Some.plan c.refuse_plan.result c.loop-plan.invariant.instead c.refuse_plan.ensures);
    }
