use Rattle.dcc_shard.proofs.shard.Shard.step_all.Goals as goal

pub returns-clause-replies : goal.returns-clause-replies
returns-clause-replies g c = rw (← c.self.view_is) c.make_all.ensures.replies_are
