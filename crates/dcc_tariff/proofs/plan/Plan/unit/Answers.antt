use Rattle.std.proofs.Common.{option_map, Bor, sym, ap, ◌∙◌}
use Rattle.dcc_tariff.specs.Plans.{PlanView}
use Rattle.dcc_tariff.specs.declared.version.Version.{Version}
use Rattle.dcc_tariff.proofs.PlanLemmas.{unit_of-found}
use Rattle.dcc_tariff.proofs.plan.Plan.unit.Goals as goal

pub returns-in_err-version : goal.returns-in_err-version
returns-in_err-version c =
    let same = c.as_slice.ensures.value ∙ ap (λ (p : PlanView). p.versions) c.self.view_is in
    c.from_residual.ensures ∙ ap (option_map (λ (v : Bor Version). v.now.unit)) (sym c.in_err-version.was)
    ∙ unit_of-found c.args.self.now c.as_slice.result.now c.args.group c.version_of_group.result same c.version_of_group.ensures

pub returns : goal.returns
returns c =
    let same = c.as_slice.ensures.value ∙ ap (λ (p : PlanView). p.versions) c.self.view_is in
    ap (option_map (λ (v : Bor Version). v.now.unit)) (sym c.in_ok-version.was)
    ∙ unit_of-found c.args.self.now c.as_slice.result.now c.args.group c.version_of_group.result same c.version_of_group.ensures
