-- The act that a request asks for (RFC 8506, sections 5 and 6).
use Rattle.std.specs.Prelude.{ℕ, ◌==◌, min, if◌then◌else◌, List, [], ◌∷◌, map, Option, Some, None, option_map}
use Rattle.dcc_tariff.specs.Plans.{PlanView, unit_of, tariff_at}
use Rattle.dcc_tariff.specs.declared.tariff.UnitKind.{UnitKind}
use Rattle.dcc_tariff.specs.declared.tariff.UnitKind.TheVariants.{Octets, Time, Units}
use Rattle.dcc_act.specs.declared.act.Act.{Act}
use Rattle.dcc_act.specs.declared.act.Kind.{Kind}
use Rattle.dcc_act.specs.declared.act.Kind.TheVariants as kind
use Rattle.dcc_act.specs.declared.limits.TheConstants.{MAX_SECONDS}
use Rattle.dcc_act.specs.declared.one_time_event.Action.{Action}
use Rattle.dcc_act.specs.declared.one_time_event.OneTimeEvent.{OneTimeEvent}
use Rattle.dcc_act.specs.declared.request_key.RequestKey.{RequestKey}
use Rattle.dcc_act.specs.declared.session_limit.SessionLimit.TheVariants.{Many}
use Rattle.dcc_act.specs.declared.session_request.SessionRequest.{SessionRequest}
use Rattle.dcc_act.specs.declared.service.Form.TheVariants.{Single}
use Rattle.dcc_act.specs.Services.{ServiceView}
use Rattle.dcc_ccr.specs.Amounts.{AmountsView}
use Rattle.dcc_ccr.specs.Requests.{RequestView}
use Rattle.dcc_ccr.specs.Services as requests
use Rattle.dcc_ccr.specs.Types.{is_event}
use Rattle.dcc_ccr.specs.declared.request_type.RequestType.{RequestType}
use Rattle.dcc_ccr.specs.declared.request_type.RequestType.TheVariants.{Initial, Update, Termination, Event}

-- the Rating-Group by which a service is charged: its own, or else the plan's default
abbrev pub group_of : PlanView → Option ℕ → ℕ
group_of plan (Some group) = group
group_of plan None = plan.default_group

-- the amount in the unit of the plan, out of the amounts that were sent; a group that the plan doesn't have counts nothing
abbrev pub amount_in : Option UnitKind → AmountsView → ℕ
amount_in None amounts = 0
amount_in (Some Octets) amounts = amounts.octets
amount_in (Some Time) amounts = amounts.time
amount_in (Some Units) amounts = amounts.units

-- an amount asked for, or another in place of 0
abbrev pub or_instead : ℕ → ℕ → ℕ
or_instead n other = if n == 0 then other else n

-- the amount for which 0 stands in a session: the plan's quantum, in seconds at most as many as fit a CC-Time (RFC 8506, section 8.21)
abbrev pub quantum_in : PlanView → UnitKind → ℕ
quantum_in plan Octets = plan.quantum
quantum_in plan Time = min plan.quantum MAX_SECONDS
quantum_in plan Units = plan.quantum

-- the units that a service of a session asks for, if it has a Requested-Service-Unit
abbrev pub session_asks : PlanView → Option UnitKind → AmountsView → ℕ
session_asks plan None amounts = 0
session_asks plan (Some counted) amounts = or_instead (amount_in (Some counted) amounts) (quantum_in plan counted)

-- the units that a one-time event asks for: no amount, or 0, stands for 1
abbrev pub event_asks : Option UnitKind → Option AmountsView → ℕ
event_asks None asked = 0
event_asks (Some counted) None = 1
event_asks (Some counted) (Some amounts) = or_instead (amount_in (Some counted) amounts) 1

-- the units that a service asks for in a request of this type; an event always asks for units
abbrev pub asked_in : RequestType → PlanView → Option UnitKind → Option AmountsView → Option ℕ
asked_in type plan unit asked = if is_event type then Some (event_asks unit asked) else option_map (session_asks plan unit) asked

-- a service of a request of this type, with the unit and the tariff that the plan has for its group at a moment
abbrev pub service_of : PlanView → ℕ → RequestType → requests.ServiceView → ServiceView
service_of plan moment type service =
    let group = group_of plan service.group in
    let unit = unit_of plan group in
    record {
      group = service.group;
      ids = service.ids;
      form = service.form;
      asked = asked_in type plan unit service.asked;
      used = option_map (amount_in unit) service.used;
      unit = unit;
      tariff = option_map (λ found. found.1) (tariff_at plan group moment);
    }

-- the session and the number of a request
abbrev pub key_of : RequestView → RequestKey
key_of request = record { sid = request.session; number = request.number }

-- a request of a session
abbrev pub session_of : PlanView → ℕ → RequestView → SessionRequest
session_of plan moment request = record { key = key_of request; services = map (service_of plan moment request.type) request.services }

-- the service of an event, which has exactly one; the empty service stands for none
abbrev pub only_service : List requests.ServiceView → requests.ServiceView
only_service [] = record { form = Single; group = None; ids = []; asked = None; used = None }
only_service (service ∷ others) = service

-- a one-time event
abbrev pub event_of : PlanView → ℕ → RequestView → Action → OneTimeEvent
event_of plan moment request action =
    record { key = key_of request; action = action; service = service_of plan moment request.type (only_service request.services) }

-- The kind of a request's act, from a peer of this host, by the request's type. An initial request keeps the host, and the limit of
-- many sessions.
abbrev pub kind_of : PlanView → (host : List ℕ) → ℕ → RequestView → RequestType → Kind
kind_of plan host moment request Initial = kind.Initial (session_of plan moment request) Many (Some host)
kind_of plan host moment request Update = kind.Update (session_of plan moment request)
kind_of plan host moment request Termination = kind.Termination (session_of plan moment request)
kind_of plan host moment request (Event action) = kind.Event (event_of plan moment request action)

-- the act that a request from a peer of this host asks for at a moment
unfoldable pub act_of : PlanView → (host : List ℕ) → RequestView → ℕ → Act
act_of plan host request moment = record { moment = moment; kind = kind_of plan host moment request request.type }
