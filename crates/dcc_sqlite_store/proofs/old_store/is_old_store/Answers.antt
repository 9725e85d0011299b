use Rattle.sqlite.specs.Held.{state}
use Rattle.dcc_sqlite_store.specs.Setting.{old_setting_row}
use Rattle.dcc_sqlite_store.proofs.Answering.{setting_shown, setting_there}
use Rattle.dcc_sqlite_store.proofs.old_store.is_old_store.Goals as goal

pub returns-clause-told : goal.returns-clause-told
returns-clause-told g c clean has =
    let db = (state g.S.Store c.args.conn.now).now.trees in
    let row = old_setting_row c.args.setting.now in
    let shown = c.in_ok-rows.ensures.rows clean has in
    let is = rw c.deref.ensures.value at c.is_setting_in.ensures in
    (λ yes. setting_shown db c.in_ok-rows.rows.items row shown (is.0 yes), λ there. is.1 (setting_there db c.in_ok-rows.rows.items row shown there))
