use Rattle.std.proofs.Common.{◌≡◌, List, [], IfSome, IfNone, ap, subst, ◌∙◌}
use Rattle.dcc_act.specs.declared.act.Act.{Act}
use Rattle.dcc_shard.specs.Routes.{shard_of}
use Rattle.dcc_shard.proofs.Routing.{at_shard}
use Rattle.dcc_shard.proofs.shards.Shards.account.Goals as goal

pub returns-clause-acts : goal.returns-clause-acts
returns-clause-acts g c =
    let at = at_shard c.same_subscribers_are_equal.ensures c.self.inside.terms c.self.inside.identity c.self.inside.shards.items c.shard_of-i.result c.index-shard.result.now c.args.sub c.self.invariant
    (c.shard_of-i.ensures.value ∙ ap (shard_of c.args.sub) (c.len.ensures ∙ c.self.inside.shards.ok.0)) c.index-shard.ensures in
    let P = λ (xs : List Act). IfSome c.account.result (λ account. account.now.acts ≡ xs) in
    rw (← c.self.view_is) (subst P at.held_is c.account.ensures.acts)

pub returns-clause-none : goal.returns-clause-none
returns-clause-none g c =
    let at = at_shard c.same_subscribers_are_equal.ensures c.self.inside.terms c.self.inside.identity c.self.inside.shards.items c.shard_of-i.result c.index-shard.result.now c.args.sub c.self.invariant
    (c.shard_of-i.ensures.value ∙ ap (shard_of c.args.sub) (c.len.ensures ∙ c.self.inside.shards.ok.0)) c.index-shard.ensures in
    let P = λ (xs : List Act). IfNone c.account.result (xs ≡ []) in
    rw (← c.self.view_is) (subst P at.held_is c.account.ensures.none)
