use Rattle.std.specs.List.Sorted.{IsPermutation}
use Rattle.sqlite.specs.Held.{state}
use Rattle.dcc_sqlite_store.specs.Trees.{act_rows}
use Rattle.dcc_sqlite_store.proofs.Answering.{shows_acts}
use Rattle.dcc_sqlite_store.proofs.Loads.{loaded}
use Rattle.dcc_sqlite_store.proofs.loading.load_book.Goals as goal

pub returns-clause-acts : goal.returns-clause-acts
returns-clause-acts g c clean has =
    let db = (state g.S.Store c.args.conn.now).now.trees in
    let law = c.pages_hold_their_rows.ensures in
    let shown : IsPermutation (act_rows db) c.in_ok-rows.rows.items = shows_acts db c.in_ok-rows.rows.items (c.in_ok-rows.ensures.rows clean has) in
    let it = c.book_in.ensures in
    loaded law.acts law.fit db c.in_ok-rows.rows.items c.book_in.result shown it.rows it.valid it.ordered
