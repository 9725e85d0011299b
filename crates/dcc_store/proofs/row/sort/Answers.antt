use Rattle.std.specs.Map.{keys_of}
use Rattle.dcc_store.proofs.Orders.{strictly_sorted}
use Rattle.dcc_store.proofs.row.sort.Goals as goal

pub returns-clause-ordered : goal.returns-clause-ordered
returns-clause-ordered c = strictly_sorted (keys_of c.sort_keys.new.self.entries) c.in_ok-sort_keys.ensures.sorted c.sort_keys.ensures.unique
