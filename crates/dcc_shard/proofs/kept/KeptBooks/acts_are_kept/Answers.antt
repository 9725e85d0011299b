use Rattle.dcc_shard.specs.Shards.{held_in}
use Rattle.dcc_shard.proofs.Storing.{held_left}
use Rattle.dcc_shard.proofs.kept.KeptBooks.acts_are_kept.Goals as goal

pub returns-clause-beyond : goal.returns-clause-beyond
returns-clause-beyond g c = rw (← c.self.view_is) c.self.invariant.2

pub returns-clause-left : goal.returns-clause-left
returns-clause-left g c =
    let books = c.self.inside.books.books in
    rw (← c.self.view_is) (held_left c.same_subscribers_are_equal.ensures c.one_more_act.ensures books.terms (held_in books.rows) _ _ c.acts_are_own.ensures c.self.invariant.1 c.self.invariant.2)
