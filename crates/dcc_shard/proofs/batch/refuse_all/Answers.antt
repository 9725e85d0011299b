use Rattle.std.proofs.Common.{false, List, rules, sym, subst, ◌++◌, ◌∷◌, []}
use Rattle.std.specs.List.{AllZip}
use Rattle.dcc_shard.specs.declared.call.Reply.{Reply}
use Rattle.dcc_shard.specs.inner.Plans.{IsReplied}
use Rattle.dcc_shard.proofs.Planning.{taken, zip_more}
use Rattle.dcc_shard.proofs.batch.refuse_all.Goals as goal

pub loop-call-preserved : goal.loop-call-preserved
loop-call-preserved c = record {
  all = taken c.loop-call.yielded _ _ _ c.in-Some.call c.loop-call.invariant.all c.in-Some.ensures.steps.0;
  room = search rules;
  replied = λ shard same.
      let P : List Reply → Type 0 = λ all. AllZip (IsReplied shard false) (c.loop-call.yielded ++ c.in-Some.call ∷ []) all in
      subst P (sym c.push_reserved.ensures.items)
      (zip_more (IsReplied shard false) c.loop-call.yielded c.loop-call.replies.items c.in-Some.call c.refuse_call.result (c.loop-call.invariant.replied shard same) (c.refuse_call.ensures shard same));
}
