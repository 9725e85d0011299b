use Rattle.dcc_shard.proofs.shard.Shard.into_records.Goals as goal

pub returns-clause-beyond : goal.returns-clause-beyond
returns-clause-beyond g c = rw (c.into_records.ensures, ← c.self.view_is) c.acts_are_kept.ensures.beyond

pub returns-clause-left : goal.returns-clause-left
returns-clause-left g c = rw (c.into_records.ensures, ← c.self.view_is) c.acts_are_kept.ensures.left
