-- What a plan answers of a group, from the version that was found in it.
use Rattle.std.proofs.Common.{◌≡◌, ℕ, true, List, filter, Option, Some, None, IsSome, option_map, option_copied, Bor, refl, sym, ap, ◌∙◌}
use Rattle.std.specs.List.{find, list_any}
use Rattle.dcc_tariff.specs.Terms.{TariffView}
use Rattle.dcc_tariff.specs.Plans.{PlanView, is_of, has_begun, latest, all_agree, unit_of, tariff_at}
use Rattle.dcc_tariff.specs.declared.tariff.UnitKind.{UnitKind}
use Rattle.dcc_tariff.specs.declared.version.Version.{Version}
use Rattle.dcc_tariff.proofs.VersionLemmas.{unit-latest, unit-some}

option_map-copied : {X Y : Type 0} (f : X → Y) (read : Option (Bor X)) → option_map (λ x. f x.now) read ≡ option_map f (option_copied read)
option_map-copied f None = refl
option_map-copied f (Some x) = refl

pub unit_of-found : (plan : PlanView) (versions : List Version) (group : ℕ) (read : Option (Bor Version)) → versions ≡ plan.versions
    → option_copied read ≡ find (is_of group) versions → option_map (λ (v : Bor Version). v.now.unit) read ≡ unit_of plan group
unfolding unit_of
unit_of-found plan versions group read same found =
    option_map-copied (λ (v : Version). v.unit) read
    ∙ ap (option_map (λ (v : Version). v.unit)) (found ∙ ap (find (is_of group)) same)

pub tariff_at-found : (plan : PlanView) (versions : List Version) (group moment : ℕ) (read : Option (Bor Version))
    → versions ≡ plan.versions
    → option_copied read ≡ latest (filter (has_begun group moment) versions)
    → option_map {U = UnitKind × TariffView} (λ (v : Bor Version). (v.now.unit, v.now.tariff)) read ≡ tariff_at plan group moment
unfolding tariff_at
tariff_at-found plan versions group moment read same found =
    option_map-copied {Y = UnitKind × TariffView} (λ (v : Version). (v.unit, v.tariff)) read
    ∙ ap (option_map {U = UnitKind × TariffView} (λ (v : Version). (v.unit, v.tariff)))
    (found ∙ ap (λ vs. latest (filter (has_begun group moment) vs)) same)

pub unit_of-latest : (plan : PlanView) (versions : List Version) (group moment : ℕ) (read : Option (Bor Version))
    (version : Bor Version) → versions ≡ plan.versions
    → all_agree plan.versions ≡ true → option_copied read ≡ latest (filter (has_begun group moment) versions) → read ≡ Some version
    → unit_of plan group ≡ Some version.now.unit
unfolding unit_of
unit_of-latest plan versions group moment read version same agree found is =
    unit-latest group moment plan.versions version.now agree
    (ap (λ vs. latest (filter (has_begun group moment) vs)) (sym same) ∙ sym found ∙ ap option_copied is)

pub unit_of-some : (plan : PlanView) (group : ℕ) → list_any (is_of group) plan.versions ≡ true → IsSome (unit_of plan group)
unfolding unit_of
unit_of-some plan group some = unit-some group plan.versions some
