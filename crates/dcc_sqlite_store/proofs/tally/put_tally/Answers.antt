use Rattle.dcc_sqlite_store.proofs.Tallying.{tally_put}
use Rattle.dcc_sqlite_store.proofs.tally.put_tally.Goals as goal

pub returns : goal.returns
returns c = tally_put c.args.tallies.now.entries c.insert.new.self.entries c.args.sub c.args.tally (λ q. c.in_ok-insert.ensures.updates.0 q)
