use Rattle.dcc_shard.proofs.Opening.{no_openers}
use Rattle.dcc_shard.proofs.indexed.IndexedBooks.new.Goals as goal

pub invariant_of-result : goal.invariant_of-result
invariant_of-result c = no_openers c.new.result c.new-2.result c.new.ensures.rows c.new-2.ensures
