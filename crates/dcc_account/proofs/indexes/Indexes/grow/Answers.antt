use Rattle.dcc_account.proofs.Lookbacks.{indexed_at}
use Rattle.dcc_account.proofs.indexes.Indexes.grow.Goals as goal

pub returns-clause-indexed : goal.returns-clause-indexed
returns-clause-indexed c past is = indexed_at past c.args.self.now _ is c.grow_map.ensures.entries c.grow_map-2.ensures.entries c.grow_set.ensures.keys
