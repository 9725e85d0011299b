use Rattle.dcc_shard.specs.inner.Pending.{step_of}
use Rattle.dcc_shard.proofs.Standing.{held_after_step}
use Rattle.dcc_shard.proofs.indexed.IndexedBooks.install_next.Goals as goal

pub returns-in-Step-clause-held : goal.returns-in-Step-clause-held
returns-in-Step-clause-held c = λ sub.
    rw c.in-Step.is (held_after_step c.same_subscribers_are_equal.ensures c.args.self.now.books c.install.new.self.books c.in-Step.sub (step_of c.in-Step.ready.pending).act c.install.ensures.step sub)
