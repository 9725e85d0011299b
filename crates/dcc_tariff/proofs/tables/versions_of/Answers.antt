use Rattle.std.proofs.Common.{◌≡◌, ◌+◌, [], drop, Vec, Global, Err, sym, ap, ◌∙◌}
use Rattle.std.proofs.lemmas.Result.{err_from_is_err_and}
use Rattle.toml.specs.View.{items_view}
use Rattle.dcc_tariff.specs.PlanTexts.{versions_onto, place, ◌>>=◌}
use Rattle.dcc_tariff.specs.declared.version.Version.{Version}
use Rattle.dcc_tariff.proofs.TableLemmas.{versions_onto-step, versions_onto-end, gives_fault}
use Rattle.dcc_tariff.proofs.tables.versions_of.Goals as goal

pub returns-in_err-version-clause-value : goal.returns-in_err-version-clause-value
returns-in_err-version-clause-value c =
    let p = err_from_is_err_and c.from_residual.result c.from_residual.ensures.1 in
    let step =
    versions_onto-step c.loop-table.versions.items c.args.tables.now c.loop-table.table-index c.table-item.result
    c.loop-table-test.true c.table-item.is in
    let after =
    λ (version : Version). versions_onto (place version c.loop-table.versions.items)
    (items_view (drop (c.loop-table.table-index + 1) c.args.tables.now)) in
    let meant : versions_onto [] (items_view c.args.tables.now) ≡ Err p.0 =
    sym c.loop-table.invariant.rest ∙ step
    ∙ ap (λ read. read >>= after) (sym c.version_of_value.ensures ∙ c.in_err-version.was ∙ ap Err (sym p.2)) in
    rw p.1 (gives_fault (λ (v : Vec Version Global). v.items) p.0 (versions_onto [] (items_view c.args.tables.now)) meant)

pub loop-table-preserved : goal.loop-table-preserved
loop-table-preserved c =
    let step =
    versions_onto-step c.loop-table.versions.items c.args.tables.now c.loop-table.table-index c.table-item.result
    c.loop-table-test.true c.table-item.is in
    let after =
    λ (version : Version). versions_onto (place version c.loop-table.versions.items)
    (items_view (drop (c.loop-table.table-index + 1) c.args.tables.now)) in
    record {
      rest =
          ap (λ vs. versions_onto vs (items_view (drop (c.loop-table.table-index + 1) c.args.tables.now))) c.in_ok-put.ensures.items
          ∙ sym (step ∙ ap (λ read. read >>= after) (sym c.version_of_value.ensures ∙ c.in_ok-version.was))
          ∙ c.loop-table.invariant.rest;
      ordered = c.in_ok-put.ensures.ordered;
      few = c.in_ok-put.ensures.len ∙ ap (λ n. n + 1) c.loop-table.invariant.few;
    }

pub returns-clause-value : goal.returns-clause-value
returns-clause-value c =
    sym c.loop-table.invariant.rest
    ∙ versions_onto-end c.loop-table.versions.items c.args.tables.now c.loop-table.table-index c.loop-table-test.false
