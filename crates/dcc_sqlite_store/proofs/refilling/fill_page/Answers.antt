use Rattle.std.proofs.lemmas.Result.{on_ok_weaker}
use Rattle.sqlite.specs.Held.{state}
use Rattle.dcc_sqlite_store.proofs.Steps.{earlier}
use Rattle.dcc_sqlite_store.proofs.Gathering.{account_put}
use Rattle.dcc_sqlite_store.proofs.refilling.fill_page.Goals as goal

pub returns-clause-added : goal.returns-clause-added
returns-clause-added g c clean inside has =
    let old = state g.S.Store c.args.tx.now.conn.now in
    let mid = state g.S.Store c.add_acts.new.tx.conn.now in
    let new = state g.S.Store c.put_account.new.tx.conn.now in
    let it = c.in_ok-add_acts.ensures in
    let one = it.added (earlier mid new _ c.put_account.ensures.survives clean) inside has in
    on_ok_weaker c.put_account.result (λ two. account_put old mid new _ _ _ one two) (rw (it.acts, it.terms) at c.put_account.ensures.added clean one.inside one.schema)
