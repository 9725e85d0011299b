use Rattle.std.proofs.Common.{rules}
use Rattle.dcc_sqlite_store.proofs.Tallying.{place_kept}
use Rattle.dcc_sqlite_store.proofs.tally.set_tally.Goals as goal

pub returns-in-Some-clause-stays : goal.returns-in-Some-clause-stays
returns-in-Some-clause-stays c =
    place_kept c.args.tallies.now.entries (c.get_mut.follows.lender c.args.tally).entries c.args.sub c.args.tally ((c.get_mut.follows.holds c.args.tally).3 (search rules)).0
