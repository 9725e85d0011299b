use Rattle.std.proofs.lemmas.Result.{on_ok_weaker}
use Rattle.sqlite.specs.Held.{state}
use Rattle.dcc_sqlite_store.proofs.Steps.{earlier}
use Rattle.dcc_sqlite_store.proofs.Upgraded.{made_anew}
use Rattle.dcc_sqlite_store.proofs.remaking.make_anew.Goals as goal

pub returns-clause-made : goal.returns-clause-made
returns-clause-made g c clean inside has =
    let a = state g.S.Store c.args.tx.now.conn.now in
    let b = state g.S.Store c.drop_tables.new.tx.conn.now in
    let d = state g.S.Store c.make_tables.new.tx.conn.now in
    let e = state g.S.Store c.add_pages.new.tx.conn.now in
    let third = earlier d e _ c.add_pages.ensures.survives clean in
    let second = earlier b d _ c.make_tables.ensures.survives third in
    let left = c.in_ok-drop_tables.ensures.left second inside has in
    let made = c.in_ok-make_tables.ensures.made third left.inside left.schema in
    on_ok_weaker c.add_pages.result (λ filled. made_anew c.args.setting.now c.args.pages.now a b d e _ left made filled) (c.add_pages.ensures.added clean made.inside made.schema)
