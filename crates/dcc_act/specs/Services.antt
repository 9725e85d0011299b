-- Services, as a contract sees them, and their limits.
use Rattle.std.specs.Prelude.{◌≡◌, ℕ, ◌≤◌, nat_le, Bool, true, false, ◌&&◌, ◌||◌, List, length, map, sum_by, Option, Some, is_some, is_none}
use Rattle.std.specs.List.{list_all}
use Rattle.std.specs.Option.{ForSome}
use Rattle.dcc_tariff.specs.Terms.{TariffView}
use Rattle.dcc_tariff.specs.declared.limits.TheConstants.{MAX_UNITS}
use Rattle.dcc_tariff.specs.declared.tariff.UnitKind.{UnitKind}
use Rattle.dcc_tariff.specs.declared.tariff.UnitKind.TheVariants.{Time}
use Rattle.dcc_act.specs.declared.limits.TheConstants.{MAX_SECONDS, MAX_SERVICES, MAX_IDS}
use Rattle.dcc_act.specs.declared.service.Form.{Form}
use Rattle.dcc_act.specs.declared.service.Form.TheVariants.{Single, Multi}
use Rattle.dcc_act.specs.declared.service_key.ServiceKey.{ServiceKey}
use Rattle.dcc_act.specs.ServiceKeys.{key_of, are_apart}

-- a service: its group and identifiers as sent, its form, the units asked for and reported, the unit of the plan, and its tariff
pub record ServiceView : Type 0 where
  pub group : Option ℕ
  pub ids : List ℕ
  pub form : Form
  pub asked : Option ℕ
  pub used : Option ℕ
  pub unit : Option UnitKind
  pub tariff : Option TariffView

-- amounts are at most 10^12; with a unit a service asks for at least 1, and for at most 2^32 - 1 seconds; without a unit amounts
-- are 0 and there is no tariff
pub record IsService (asked used : Option ℕ) (unit : Option UnitKind) (tariff : Option TariffView) : Type 0 where
  pub asked_in_range : ForSome asked (λ units. units ≤ MAX_UNITS)
  pub asked_not_zero : is_some unit ≡ true → ForSome asked (λ units. 1 ≤ units)
  pub asked_seconds_in_range : unit ≡ Some Time → ForSome asked (λ units. units ≤ MAX_SECONDS)
  pub used_in_range : ForSome used (λ units. units ≤ MAX_UNITS)
  pub unrated_asks_nothing : is_none unit ≡ true → ForSome asked (λ units. units ≡ 0)
  pub unrated_uses_nothing : is_none unit ≡ true → ForSome used (λ units. units ≡ 0)
  pub unrated_costs_nothing : is_none unit ≡ true → is_none tariff ≡ true

-- the key of a service among those of its session
abbrev pub service_key : ServiceView → ServiceKey
service_key service = key_of service.group service.ids

abbrev pub is_multi : Form → Bool
is_multi Single = false
is_multi Multi = true

-- a service in single form is the only service
abbrev pub stand_right : List ServiceView → Bool
stand_right services = nat_le (length services) 1 || list_all (λ service. is_multi service.form) services

-- at most 32 services, with at most 5,460 identifiers together, each of a key of its own; a service in single form is the only service
abbrev pub are_services : List ServiceView → Bool
are_services services =
    nat_le (length services) MAX_SERVICES && nat_le (sum_by (λ service. length service.ids) services) MAX_IDS &&
    are_apart (map service_key services) && stand_right services
