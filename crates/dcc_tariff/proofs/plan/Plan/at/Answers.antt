use Rattle.std.proofs.Common.{◌≡◌, true, option_map, Bor, sym, ap, ◌∙◌}
use Rattle.dcc_tariff.specs.Terms.{TariffView}
use Rattle.dcc_tariff.specs.Plans.{PlanView, all_agree}
use Rattle.dcc_tariff.specs.declared.tariff.UnitKind.{UnitKind}
use Rattle.dcc_tariff.specs.declared.version.Version.{Version}
use Rattle.dcc_tariff.proofs.PlanLemmas.{tariff_at-found, unit_of-latest}
use Rattle.dcc_tariff.proofs.plan.Plan.at.Goals as goal

pub returns-in_err-version-clause-value : goal.returns-in_err-version-clause-value
returns-in_err-version-clause-value c =
    let same = c.as_slice.ensures.value ∙ ap (λ (p : PlanView). p.versions) c.self.view_is in
    c.from_residual.ensures
    ∙ ap (option_map {U = UnitKind × TariffView} (λ (v : Bor Version). (v.now.unit, v.now.tariff))) (sym c.in_err-version.was)
    ∙ tariff_at-found c.args.self.now c.as_slice.result.now c.args.group c.args.moment c.version_at.result same c.version_at.ensures

pub returns-clause-value : goal.returns-clause-value
returns-clause-value c =
    let same = c.as_slice.ensures.value ∙ ap (λ (p : PlanView). p.versions) c.self.view_is in
    ap (option_map {U = UnitKind × TariffView} (λ (v : Bor Version). (v.now.unit, v.now.tariff))) (sym c.in_ok-version.was)
    ∙ tariff_at-found c.args.self.now c.as_slice.result.now c.args.group c.args.moment c.version_at.result same c.version_at.ensures

pub returns-clause-unit : goal.returns-clause-unit
returns-clause-unit c =
    let same = c.as_slice.ensures.value ∙ ap (λ (p : PlanView). p.versions) c.self.view_is in
    let agree : all_agree c.args.self.now.versions ≡ true =
    rw (← ap (λ (p : PlanView). p.versions) c.self.view_is) c.self.invariant.agree in
    unit_of-latest c.args.self.now c.as_slice.result.now c.args.group c.args.moment c.version_at.result c.in_ok-version.version same agree
    c.version_at.ensures c.in_ok-version.was
