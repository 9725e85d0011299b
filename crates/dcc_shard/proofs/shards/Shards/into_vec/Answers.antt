use Rattle.dcc_shard.proofs.Routing.{held_where_kept, is_below}
use Rattle.dcc_shard.proofs.shards.Shards.into_vec.Goals as goal

pub returns-clause-held : goal.returns-clause-held
returns-clause-held g c = λ sub none.
    let shards = c.self.inside.shards.items in
    rw (← c.self.view_is) (held_where_kept c.same_subscribers_are_equal.ensures c.self.inside.terms c.self.inside.identity shards none sub (is_below shards c.self.invariant.some sub))
