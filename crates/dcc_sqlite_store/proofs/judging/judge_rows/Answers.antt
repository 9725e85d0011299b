use Rattle.std.proofs.Common.{◌≡◌, map, rules}
use Rattle.dcc_sqlite_rows.specs.Stored.{line_row}
use Rattle.dcc_sqlite_store.proofs.judging.judge_rows.Goals as goal

pub returns-clause-book : goal.returns-clause-book
returns-clause-book c =
    let acts : c.args.acts.items ≡ map line_row c.in_ok-lines.lines.items = search rules in
    rw acts c.judge_lines.ensures.book
