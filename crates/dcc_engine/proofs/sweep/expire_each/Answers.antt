use Rattle.std.proofs.Common.{◌≡◌, ◌∷◌, [], ◌++◌, ◌+◌, length, take, drop, subst, sym, ap, ◌∙◌, arith, false, List}
use Rattle.std.proofs.lemmas.List.{take_more}
use Rattle.dcc_act.specs.declared.sub.Sub.{Sub}
use Rattle.dcc_shard.specs.Answers.{expiry_act}
use Rattle.dcc_shard.specs.Shards.{is_among}
use Rattle.dcc_engine.specs.inner.Sweeps.{IsSwept}
use Rattle.dcc_shard.specs.Routes.{route_order}
use Rattle.dcc_engine.proofs.Refusing.{next_to_come, order_more}
use Rattle.dcc_engine.proofs.Sweeps.{first_here, few_more, swept_more}
use Rattle.dcc_engine.proofs.sweep.expire_each.Goals as goal

pub loop-sub-preserved : goal.loop-sub-preserved
loop-sub-preserved g c =
    let law = c.same_subscribers_are_equal.ensures in
    let subs = c.args.subs.now in
    let i = c.loop-sub.sub-index in
    let sub = c.sub-item.result in
    let act = expiry_act c.args.moment in
    let h = c.loop-sub.invariant in
    let one = c.expire_one.ensures.swept in
    let first : is_among sub (take i subs) ≡ false =
    ap (λ (s : Sub). is_among s (take i subs)) c.sub-item.is ∙ first_here law subs i sub c.requires.once c.loop-sub-test.true in
    let more : take i subs ++ sub ∷ [] ≡ take (i + 1) subs =
    ap (λ (s : Sub). take i subs ++ s ∷ []) c.sub-item.is ∙ sym (take_more subs i sub c.loop-sub-test.true) in
    let now = c.loop-sub.shards.shard in
    let new = c.expire_one.new.shards.shard in
    let before = c.loop-sub.refused.items in
    let then_refused = c.expire_one.new.refused.items in
    record {
      swept = subst (λ (done : List Sub). IsSwept c.args.shards.now.shard new done then_refused act) more
          (swept_more law c.args.shards.now.shard now new (take i subs) before then_refused sub act h.swept one first);
      few = few_more now new before then_refused sub act i one h.few;
      room = omega arith;
      own = c.expire_one.ensures.own;
      count = c.expire_one.ensures.count ∙ h.count;
      order = order_more (route_order (length c.args.shards.now.parts)) before then_refused (drop (i + 1) subs) (drop i subs) sub one.judged
          (next_to_come subs i sub c.loop-sub-test.true c.sub-item.is) h.order one.noted;
    }
