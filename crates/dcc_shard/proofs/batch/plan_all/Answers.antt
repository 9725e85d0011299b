use Rattle.std.proofs.Common.{List, rules, sym, subst, ◌++◌, ◌∷◌, [], ◌≡◌}
use Rattle.std.specs.List.{AllZip, AllByRecursion}
use Rattle.dcc_shard.specs.Shards.{ShardView}
use Rattle.dcc_shard.specs.declared.plan.Plan.{Plan}
use Rattle.dcc_shard.specs.inner.Plans.{IsPlan, IsStanding, shard_of_books}
use Rattle.dcc_shard.proofs.Planning.{taken, zip_more, all_more}
use Rattle.dcc_shard.proofs.Standing.{standing_same, same_on, same_shard}
use Rattle.dcc_shard.proofs.batch.plan_all.Goals as goal

pub loop-call-preserved : goal.loop-call-preserved
loop-call-preserved g c =
    let identity = c.args.identity.now in
    let was = c.args.kept.now in
    let mid = c.loop-call.kept in
    let now = c.plan_call.new.kept in
    let shard = shard_of_books identity was.books in
    let shards_are : shard_of_books identity mid.books ≡ shard = same_shard identity was mid c.loop-call.invariant.stays in
    let plan = subst (λ (s : ShardView). IsPlan s c.in-Some.call c.plan_call.result) shards_are c.plan_call.ensures.plan in
    let P : List Plan → Type 0 = λ all. AllZip (IsPlan shard) (c.loop-call.yielded ++ c.in-Some.call ∷ []) all in
    let Q : List Plan → Type 0 = λ all. AllByRecursion (IsStanding now.books now.openers c.args.number) all in
    record {
      all = taken c.loop-call.yielded _ _ _ c.in-Some.call c.loop-call.invariant.all c.in-Some.ensures.steps.0;
      room = search rules;
      plans = subst P (sym c.push_reserved.ensures.items) (zip_more (IsPlan shard) c.loop-call.yielded c.loop-call.plans.items c.in-Some.call c.plan_call.result c.loop-call.invariant.plans plan);
      standing = subst Q (sym c.push_reserved.ensures.items) (all_more (IsStanding now.books now.openers c.args.number) c.loop-call.plans.items c.plan_call.result
          (standing_same mid now c.args.number c.loop-call.plans.items c.plan_call.ensures.stays c.loop-call.invariant.standing) c.plan_call.ensures.standing);
      stays = same_on was mid now c.loop-call.invariant.stays c.plan_call.ensures.stays;
    }
