use Rattle.std.proofs.Common.{◌≡◌, ◌∙◌, true, ap, subst}
use Rattle.dcc_shard.specs.Routes.{shard_of}
use Rattle.dcc_shard.specs.Answers.{is_judged_expiry, expiry_act}
use Rattle.dcc_shard.specs.Stored.{StoredView}
use Rattle.dcc_shard.specs.inner.Routed.{as_one}
use Rattle.dcc_shard.proofs.Routing.{at_shard, part_is, one_steps, expired_of_one}
use Rattle.dcc_shard.proofs.shards.Shards.expire.Goals as goal

pub invariant_of-self : goal.invariant_of-self
invariant_of-self g c =
    (one_steps c.same_subscribers_are_equal.ensures c.leaving_out_changes_nothing.ensures.whole c.self.inside.terms c.self.inside.identity c.self.inside.shards.items c.shard_of-i.result
    c.index_mut-shard.result.now c.expire.new.self (is_judged_expiry c.expire.result) c.args.sub (expiry_act c.args.moment) c.self.invariant (c.shard_of-i.ensures.value ∙ ap (shard_of c.args.sub) (c.len.ensures ∙ c.self.inside.shards.ok.0)) c.index_mut-shard.ensures.value c.expire.ensures.step).are

pub returns-clause-answer : goal.returns-clause-answer
returns-clause-answer g c =
    let at = at_shard c.same_subscribers_are_equal.ensures c.self.inside.terms c.self.inside.identity c.self.inside.shards.items c.shard_of-i.result c.index_mut-shard.result.now c.args.sub c.self.invariant (c.shard_of-i.ensures.value ∙ ap (shard_of c.args.sub) (c.len.ensures ∙ c.self.inside.shards.ok.0))
    c.index_mut-shard.ensures.value in
    rw (← c.self.view_is) (expired_of_one c.index_mut-shard.result.now.shard (as_one c.self.inside.terms c.self.inside.identity c.self.inside.shards.items) c.args.sub c.args.moment c.expire.result at.terms_are at.held_is c.expire.ensures.answer)

pub returns-clause-step : goal.returns-clause-step
returns-clause-step g c =
    rw (← c.self.view_is) (one_steps c.same_subscribers_are_equal.ensures c.leaving_out_changes_nothing.ensures.whole c.self.inside.terms c.self.inside.identity c.self.inside.shards.items c.shard_of-i.result
    c.index_mut-shard.result.now c.expire.new.self (is_judged_expiry c.expire.result) c.args.sub (expiry_act c.args.moment) c.self.invariant (c.shard_of-i.ensures.value ∙ ap (shard_of c.args.sub) (c.len.ensures ∙ c.self.inside.shards.ok.0)) c.index_mut-shard.ensures.value c.expire.ensures.step).step

pub returns-clause-parts : goal.returns-clause-parts
returns-clause-parts g c =
    rw (← c.self.view_is) (one_steps c.same_subscribers_are_equal.ensures c.leaving_out_changes_nothing.ensures.whole c.self.inside.terms c.self.inside.identity c.self.inside.shards.items c.shard_of-i.result
    c.index_mut-shard.result.now c.expire.new.self (is_judged_expiry c.expire.result) c.args.sub (expiry_act c.args.moment) c.self.invariant (c.shard_of-i.ensures.value ∙ ap (shard_of c.args.sub) (c.len.ensures ∙ c.self.inside.shards.ok.0)) c.index_mut-shard.ensures.value c.expire.ensures.step).parts

pub returns-clause-own : goal.returns-clause-own
returns-clause-own g c =
    (one_steps c.same_subscribers_are_equal.ensures c.leaving_out_changes_nothing.ensures.whole c.self.inside.terms c.self.inside.identity c.self.inside.shards.items c.shard_of-i.result
    c.index_mut-shard.result.now c.expire.new.self (is_judged_expiry c.expire.result) c.args.sub (expiry_act c.args.moment) c.self.invariant (c.shard_of-i.ensures.value ∙ ap (shard_of c.args.sub) (c.len.ensures ∙ c.self.inside.shards.ok.0)) c.index_mut-shard.ensures.value c.expire.ensures.step).are.own

pub returns-clause-stopped : goal.returns-clause-stopped
returns-clause-stopped g c =
    rw (← c.self.view_is) (λ none stopped. c.expire.ensures.stopped (subst (λ (v : StoredView g.row.R.Denot). g.R.Records.is_stopped v.records ≡ true)
    (part_is c.self.inside.terms c.self.inside.identity c.self.inside.shards.items c.shard_of-i.result c.index_mut-shard.result.now c.args.sub c.self.invariant
    (c.shard_of-i.ensures.value ∙ ap (shard_of c.args.sub) (c.len.ensures ∙ c.self.inside.shards.ok.0)) c.index_mut-shard.ensures.value none) stopped))
