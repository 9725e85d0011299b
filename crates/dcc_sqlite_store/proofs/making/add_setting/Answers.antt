use Rattle.std.proofs.Common.{pos, FitsSigned, w32, rules, subst}
use Rattle.std.proofs.lemmas.Int.{to_z-of_z}
use Rattle.sqlite.specs.Held.{state}
use Rattle.dcc_tariff.specs.Terms.{TermsView}
use Rattle.dcc_sqlite_store.specs.Tables.{layout}
use Rattle.dcc_sqlite_store.specs.inner.Making.{HasMade}
use Rattle.dcc_sqlite_store.proofs.Creates.{adds_setting, HasSetting}
use Rattle.dcc_sqlite_store.proofs.making.add_setting.Goals as goal

pub returns-clause-made : goal.returns-clause-made
returns-clause-made g c clean inside has none =
    let old = state g.S.Store c.args.tx.now.conn.now in
    let new = state g.S.Store c.execute.new.self.conn.now in
    let setting = c.args.setting.now in
    let terms = c.terms.inside in
    let fits : FitsSigned w32 terms.exponent = search rules in
    let it = adds_setting (pos setting.shard) (pos setting.shards) setting.host.now setting.realm.now (pos terms.validity) (pos terms.hold) (pos terms.currency) terms.exponent old new c.in_ok-execute.field-0 has none
    (rw (c.params-to_sql.ensures, c.params-to_sql-2.ensures, c.params-to_sql-3.ensures, c.params-to_sql-4.ensures, c.params-to_sql-5.ensures, c.params-to_sql-6.ensures, c.params-to_sql-7.ensures, c.params-to_sql-8.ensures, to_z-of_z w32 terms.exponent fits) at c.in_ok-execute.ensures.runs clean inside) in
    subst (λ (v : TermsView). HasMade layout (HasSetting (pos setting.shard) (pos setting.shards) setting.host.now setting.realm.now (pos v.validity) (pos v.hold) (pos v.currency) v.exponent) old new) c.terms.view_is it
