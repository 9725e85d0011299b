use Rattle.std.proofs.Common.{w64}
use Rattle.std.proofs.lemmas.Int.{to_z-of_z}
use Rattle.std.proofs.lemmas.Result.{on_ok_weaker}
use Rattle.sqlite.specs.Held.{state}
use Rattle.dcc_sqlite_store.proofs.Accounts.{appends, keyed_later}
use Rattle.dcc_sqlite_store.proofs.Steps.{earlier}
use Rattle.dcc_sqlite_store.proofs.adding.add_rows.Goals as goal

pub returns-clause-added : goal.returns-clause-added
returns-clause-added g c clean inside has keyed =
    let a = state g.S.Store c.args.tx.now.conn.now in
    let b = state g.S.Store c.add_act.new.tx.conn.now in
    let d = state g.S.Store c.add_entries.new.tx.conn.now in
    let e = state g.S.Store c.set_account.new.tx.conn.now in
    let third = earlier d e _ c.set_account.ensures.survives clean in
    let second = earlier b d _ c.add_entries.ensures.survives third in
    let one = c.in_ok-add_act.ensures.added second inside has in
    let two = c.in_ok-add_entries.ensures.added third one.inside one.schema in
    on_ok_weaker c.set_account.result (λ three. appends a b d e c.args.sub.now c.args.place c.args.body.now c.args.entries.now c.args.funds one two three)
    (rw (to_z-of_z w64 c.args.funds c.ranges.funds) at c.set_account.ensures.set clean two.inside two.schema (keyed_later a b d _ _ one two keyed))
