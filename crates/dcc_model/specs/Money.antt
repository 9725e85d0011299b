-- Funds, overrun, reserved money and free money. `past` is the acts that were made, the latest first, each with its outcome. An
-- act's change of money is a function of the past before it, of the act and of its outcome.
use Rattle.std.specs.Prelude.{ℕ, ◌+◌, ◌-◌, ℤ, pos, ◌+ℤ◌, ◌-ℤ◌, Bool, not, ◌&&◌, if◌then◌else◌, List, [], ◌∷◌, filter, sum_by, bytes_eq, Option, Some, None, is_some, is_none, option_map, unwrap_or}
use Rattle.std.specs.List.{list_any}
use Rattle.std.specs.Option.{option_and_then, option_or, option_map_or}
use Rattle.dcc_tariff.specs.Prices.{price}
use Rattle.dcc_tariff.specs.Terms.{TermsView, TariffView}
use Rattle.dcc_tariff.specs.declared.tariff.UnitKind.{UnitKind}
use Rattle.dcc_act.specs.ServiceKeys.{same_service}
use Rattle.dcc_act.specs.Services.{ServiceView, service_key}
use Rattle.dcc_act.specs.declared.act.Kind.{Kind}
use Rattle.dcc_act.specs.declared.act.Kind.TheVariants.{TopUp, Event}
use Rattle.dcc_act.specs.declared.grant.Grant.{Grant}
use Rattle.dcc_act.specs.declared.one_time_event.Action.{Action}
use Rattle.dcc_act.specs.declared.one_time_event.OneTimeEvent.{OneTimeEvent}
use Rattle.dcc_act.specs.declared.one_time_event.Action.TheVariants.{DirectDebiting, RefundAccount, CheckBalance, PriceEnquiry}
use Rattle.dcc_act.specs.declared.outcome.Outcome.{Outcome}
use Rattle.dcc_act.specs.declared.outcome.ServiceAnswer.{ServiceAnswer}
use Rattle.dcc_act.specs.declared.service_key.ServiceKey.{ServiceKey}
use Rattle.dcc_model.specs.declared.done.Done.{Done}
use Rattle.dcc_model.specs.Results.{succeeded, is_added}
use Rattle.dcc_model.specs.Sessions.{Sid, Live, live, lives, named, looked_at, accepted_by}

-- so many units of a kind at a tariff, if all three are there
abbrev pub rated : Option UnitKind → Option ℕ → Option TariffView → Option Grant
rated (Some unit) (Some units) (Some tariff) = Some (record { unit = unit; units = units; tariff = tariff })
rated _ _ _ = None

-- the units that a service asks for, at the tariff of its moment, if it asks for any and there is a tariff
abbrev pub asked_units : ServiceView → Option Grant
asked_units service = rated service.unit service.asked service.tariff

-- the price of granted units, in minor units
abbrev pub grant_price : Grant → ℕ
grant_price grant = price grant.tariff grant.units

-- the units that a successful event charges: those that a direct debit asks for (RFC 8506, section 6.3)
abbrev pub charged_by : Action → Option Grant → Option Grant
charged_by DirectDebiting asked = asked
charged_by RefundAccount asked = None
charged_by CheckBalance asked = None
charged_by PriceEnquiry asked = None

-- the units that a successful event refunds: those that a refund asks for (section 6.4)
abbrev pub refunded_by : Action → Option Grant → Option Grant
refunded_by DirectDebiting asked = None
refunded_by RefundAccount asked = asked
refunded_by CheckBalance asked = None
refunded_by PriceEnquiry asked = None

-- the units that an event with this outcome charged, and those that it refunded
abbrev pub charged_event : OneTimeEvent → Outcome → Option Grant
charged_event event outcome = if succeeded outcome then charged_by event.action (asked_units event.service) else None

abbrev pub refunded_event : OneTimeEvent → Outcome → Option Grant
refunded_event event outcome = if succeeded outcome then refunded_by event.action (asked_units event.service) else None

-- the price of a service's live grant
abbrev pub live_price : TermsView → List Done → Sid → ServiceKey → ℕ
live_price terms past sid key = option_map_or grant_price (live terms past sid key) 0

-- the tariff of a service's live grant, or else that of the act's moment
abbrev pub tariff_by : Option Grant → ServiceView → Option TariffView
tariff_by live service = option_or (option_map (λ (grant : Grant). grant.tariff) live) service.tariff

-- the charge for a service's report, if there is a report and a tariff for it
abbrev pub charge_by : Option Grant → ServiceView → Option ℕ
charge_by live service = option_and_then (λ units. option_map (λ tariff. price tariff units) (tariff_by live service)) service.used

abbrev pub charge : TermsView → List Done → Sid → ServiceView → Option ℕ
charge terms past sid service = charge_by (live terms past sid (service_key service)) service

-- a report that no tariff charges
abbrev pub is_unrated_by : Option Grant → ServiceView → Bool
is_unrated_by live service = is_some service.used && is_none (charge_by live service)

abbrev pub is_unrated : TermsView → List Done → Sid → ServiceView → Bool
is_unrated terms past sid service = is_unrated_by (live terms past sid (service_key service)) service

-- the sum of the charges of a request's reports
abbrev pub charges : TermsView → List Done → Sid → List ServiceView → ℕ
charges terms past sid services = sum_by (λ service. unwrap_or (charge terms past sid service) 0) services

-- the sum of the parts of the charges beyond the prices of the live grants
abbrev pub overruns : TermsView → List Done → Sid → List ServiceView → ℕ
overruns terms past sid services = sum_by (λ service. unwrap_or (charge terms past sid service) 0 - live_price terms past sid (service_key service)) services

-- the money that an act added to the funds: a top-up its amount, and a refund the price of the units that it asked for
abbrev pub credit : Kind → Outcome → ℕ
credit (TopUp top_up) outcome = if is_added outcome then top_up.amount else 0
credit (Event event) outcome = option_map_or grant_price (refunded_event event outcome) 0
credit _ outcome = 0

-- the money that a direct debit took from the funds
abbrev pub debit : Kind → Outcome → ℕ
debit (Event event) outcome = option_map_or grant_price (charged_event event outcome) 0
debit _ outcome = 0

-- the charge of an accepted update or termination
abbrev pub charged : TermsView → List Done → Done → ℕ
charged terms past done = option_map_or (λ sid. charges terms past sid (looked_at done.act.kind)) (accepted_by done.act.kind done.outcome) 0

-- the part of its charges beyond the prices of the live grants
abbrev pub overran : TermsView → List Done → Done → ℕ
overran terms past done = option_map_or (λ sid. overruns terms past sid (looked_at done.act.kind)) (accepted_by done.act.kind done.outcome) 0

-- the funds: the money that the acts added, less the money that they took
abbrev pub funds_of : TermsView → List Done → ℤ
funds_of terms [] = pos 0
funds_of terms (done ∷ past) =
    (funds_of terms past +ℤ pos (credit done.act.kind done.outcome)) -ℤ pos (debit done.act.kind done.outcome + charged terms past done)

-- the overrun of all acts
abbrev pub overrun_of : TermsView → List Done → ℕ
overrun_of terms [] = 0
overrun_of terms (done ∷ past) = overrun_of terms past + overran terms past done

abbrev pub held_price : Live → ℕ
held_price held = grant_price held.grant

-- the reserved money: the prices of all live grants
abbrev pub reserved_of : TermsView → List Done → ℕ
reserved_of terms past = sum_by held_price (lives terms past)

-- the least value at which open requests can leave the funds (the infimum of O'Neil's escrow method)
abbrev pub free_of : TermsView → List Done → ℤ
free_of terms past = funds_of terms past -ℤ pos (reserved_of terms past)

-- a request of a session replaces a service's grant
abbrev pub is_replaced : Sid → List ServiceView → Live → Bool
is_replaced sid services held = bytes_eq sid held.sid && list_any (same_service held.key) (named services)

-- the prices of the live grants that a request doesn't replace
abbrev pub reserved_beside : TermsView → List Done → Sid → List ServiceView → ℕ
reserved_beside terms past sid services = sum_by held_price (filter (λ held. not (is_replaced sid services held)) (lives terms past))

-- the price of an answer's grant, or 0
abbrev pub made_price : ServiceAnswer → ℕ
made_price answer = option_map_or grant_price answer.grant 0

-- the room of the next service's grant: the funds less the request's charges, less the live grants that it doesn't replace, less
-- the grants that it made to the services before
abbrev pub room : TermsView → List Done → Sid → List ServiceView → List ServiceAnswer → ℤ
room terms past sid services before =
    funds_of terms past -ℤ pos (charges terms past sid services + reserved_beside terms past sid services + sum_by made_price before)
