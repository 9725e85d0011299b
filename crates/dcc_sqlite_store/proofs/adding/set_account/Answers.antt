use Rattle.std.proofs.Common.{w64, refl}
use Rattle.std.proofs.lemmas.Int.{to_z-of_z}
use Rattle.std.proofs.lemmas.Result.{on_ok_weaker}
use Rattle.sqlite.specs.Held.{state}
use Rattle.dcc_sqlite_store.proofs.Accounts.{sets_account}
use Rattle.dcc_sqlite_store.proofs.Steps.{earlier}
use Rattle.dcc_sqlite_store.proofs.adding.set_account.Goals as goal

pub returns-in-0-clause-set : goal.returns-in-0-clause-set
returns-in-0-clause-set g c clean inside has keyed =
    let old = state g.S.Store c.args.tx.now.conn.now in
    let mid = state g.S.Store c.update_account.new.tx.conn.now in
    let new = state g.S.Store c.add_account.new.tx.conn.now in
    let early = earlier mid new _ c.add_account.ensures.survives clean in
    let gone = c.in_ok-update_account.ensures.none early inside has keyed c.in-0.is in
    on_ok_weaker c.add_account.result (λ added. sets_account old mid new c.args.sub.now _ gone added refl) (rw (to_z-of_z w64 c.args.funds c.ranges.funds) at c.add_account.ensures.added clean gone.inside gone.schema)
