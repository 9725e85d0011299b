use Rattle.std.proofs.Common.{◌≡◌, true, map, rules}
use Rattle.dcc_sqlite_rows.specs.Stored.{Rows, line_row}
use Rattle.dcc_sqlite_store.proofs.Verdicts.{not_damaged}
use Rattle.dcc_sqlite_store.proofs.judging.lines_in.Goals as goal

pub returns-clause-whole : goal.returns-clause-whole
returns-clause-whole c =
    let rows : Rows = record { acts = c.args.acts.items; entries = c.args.entries.now; accounts = c.args.accounts.now } in
    let entries : c.are_of_subs.result ≡ true = search rules in
    let accounts : c.are_of_subs-2.result ≡ true = search rules in
    let lines : c.args.acts.items ≡ map line_row c.in-Ok.lines.items = search rules in
    not_damaged rows c.in-Ok.lines.items lines c.in-Ok.ensures.subs c.in-Ok.ensures.fit (c.are_of_subs.ensures.all entries) (c.are_of_subs-2.ensures.all accounts)
