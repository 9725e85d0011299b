use Rattle.std.proofs.lemmas.Result.{on_ok_weaker}
use Rattle.sqlite.specs.Held.{state}
use Rattle.dcc_sqlite_store.proofs.Gathering.{act_put}
use Rattle.dcc_sqlite_store.proofs.Steps.{earlier}
use Rattle.dcc_sqlite_store.proofs.refilling.put_act.Goals as goal

pub returns-clause-added : goal.returns-clause-added
returns-clause-added g c clean inside has =
    let a = state g.S.Store c.args.tx.now.conn.now in
    let b = state g.S.Store c.add_act.new.tx.conn.now in
    let d = state g.S.Store c.add_entries.new.tx.conn.now in
    let early = earlier b d _ c.add_entries.ensures.survives clean in
    let one = c.in_ok-add_act.ensures.added early inside has in
    on_ok_weaker c.add_entries.result (λ two. act_put a b d _ _ one two) (c.add_entries.ensures.added clean one.inside one.schema)
