-- The live grants of one session: their prices, the grant of each service, and the charge of its report.
use Rattle.std.specs.Prelude.{ℕ, ◌-◌, Bool, not, ◌||◌, if◌then◌else◌, List, map, filter, find, sum_by, is_some, Option, option_map, unwrap_or}
use Rattle.std.specs.List.{list_any}
use Rattle.std.specs.Option.{option_and_then, option_or, option_map_or}
use Rattle.dcc_tariff.specs.Prices.{price}
use Rattle.dcc_tariff.specs.Terms.{TariffView}
use Rattle.dcc_act.specs.ServiceKeys.{same_service}
use Rattle.dcc_act.specs.Services.{ServiceView, service_key}
use Rattle.dcc_act.specs.declared.grant.Grant.{Grant}
use Rattle.dcc_act.specs.declared.service_key.ServiceKey.{ServiceKey}
use Rattle.dcc_session.specs.declared.held.Held.{Held}

-- the price of a grant's units at its tariff, in minor units
abbrev pub price_of_grant : Grant → ℕ
price_of_grant grant = price grant.tariff grant.units

abbrev pub held_price : Held → ℕ
held_price held = price_of_grant held.grant

abbrev pub prices : List Held → ℕ
prices grants = sum_by held_price grants

-- the service to which a grant was made
abbrev pub key_of_held : Held → ServiceKey
key_of_held held = held.key

-- the grant that a service has among these
abbrev pub live_in : List Held → ServiceKey → Option Grant
live_in own key = option_map (λ (held : Held). held.grant) (find (λ (held : Held). same_service held.key key) own)

-- the grants without that of the service
abbrev pub without : List Held → ServiceKey → List Held
without own key = filter (λ (held : Held). not (same_service held.key key)) own

-- the price of the service's grant, or 0
abbrev pub live_price_in : List Held → ServiceKey → ℕ
live_price_in own key = option_map_or price_of_grant (live_in own key) 0

-- the price of the units that a service reports, if it reports any and there is a tariff
abbrev pub charge_at : Option TariffView → ServiceView → Option ℕ
charge_at tariff service = option_and_then (λ units. option_map (λ at. price at units) tariff) service.used

-- the tariff of a service's live grant, or without a live grant the service's own
abbrev pub tariff_by : Option Grant → ServiceView → Option TariffView
tariff_by live service = option_or (option_map (λ (grant : Grant). grant.tariff) live) service.tariff

abbrev pub charge_tariff_in : List Held → ServiceView → Option TariffView
charge_tariff_in own service = tariff_by (live_in own (service_key service)) service

-- the charge for its report at that tariff
abbrev pub charge_by : Option Grant → ServiceView → Option ℕ
charge_by live service = charge_at (tariff_by live service) service

abbrev pub charge_in : List Held → ServiceView → Option ℕ
charge_in own service = charge_by (live_in own (service_key service)) service

-- the same charge, or 0
abbrev pub cost_in : List Held → ServiceView → ℕ
cost_in own service = unwrap_or (charge_in own service) 0

-- the part of the charge beyond the price of the live grant
abbrev pub overrun_by : Option Grant → ServiceView → ℕ
overrun_by live service = unwrap_or (charge_by live service) 0 - option_map_or price_of_grant live 0

abbrev pub overrun_in : List Held → ServiceView → ℕ
overrun_in own service = overrun_by (live_in own (service_key service)) service

-- a service that reports units or asks for some gives back its grant
abbrev pub is_named : ServiceView → Bool
is_named service = is_some service.asked || is_some service.used

-- the price of the grant that a service gives back by itself, and the grants that it leaves
abbrev pub given_by : List Held → ServiceView → ℕ
given_by own service = if is_named service then live_price_in own (service_key service) else 0

abbrev pub left_by : List Held → ServiceView → List Held
left_by own service = if is_named service then without own (service_key service) else own

abbrev pub is_given_back : List ServiceView → Held → Bool
is_given_back services held = list_any (same_service held.key) (map service_key (filter is_named services))

-- the prices of the grants that a request's services give back, and the grants that are left
abbrev pub given_back : List Held → List ServiceView → ℕ
given_back own services = prices (filter (is_given_back services) own)

abbrev pub left_of : List Held → List ServiceView → List Held
left_of own services = filter (λ (held : Held). not (is_given_back services held)) own

-- the sum of the charges of a request's reports
abbrev pub charges_in : List Held → List ServiceView → ℕ
charges_in own services = sum_by (λ service. unwrap_or (charge_in own service) 0) services

-- the sum of their parts beyond the prices of the live grants
abbrev pub overruns_in : List Held → List ServiceView → ℕ
overruns_in own services = sum_by (overrun_in own) services
