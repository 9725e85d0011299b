use Rattle.dcc_shard.proofs.shard.Shard.new.Goals as goal

pub returns-in-Ok-clause-there : goal.returns-in-Ok-clause-there
returns-in-Ok-clause-there g c = rw (c.of.ensures.books, c.of.ensures.records) c.in-Ok.ensures.there
