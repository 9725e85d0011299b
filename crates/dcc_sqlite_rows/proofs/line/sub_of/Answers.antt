use Rattle.dcc_sqlite_rows.proofs.Lines.{sub_found}
use Rattle.dcc_sqlite_rows.proofs.line.sub_of.Goals as goal

pub returns-in-len1-up-clause-sub : goal.returns-in-len1-up-clause-sub
returns-in-len1-up-clause-sub c = sub_found c.args.row.now c.in_ok-octets.octets.now c.new.result c.in_ok-octets.ensures c.in-len1-up.len_at_least c.new.ensures
