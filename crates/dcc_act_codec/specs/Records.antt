-- The record of an act, version 2: the octets that spell it, each number with its highest octet first.
use Rattle.std.specs.Prelude.{ℕ, List, [], ◌∷◌, ◌++◌, length, Option, Some, None}
use Rattle.std.specs.Int.{w16, w32, w64, to_be_bytes}
use Rattle.std.specs.List.{flat_map}
use Rattle.dcc_tariff.specs.Terms.{TariffView}
use Rattle.dcc_tariff.specs.declared.tariff.UnitKind.{UnitKind}
use Rattle.dcc_tariff.specs.declared.tariff.UnitKind.TheVariants as unit
use Rattle.dcc_act.specs.declared.act.Act.{Act}
use Rattle.dcc_act.specs.declared.act.Kind.{Kind}
use Rattle.dcc_act.specs.declared.act.Kind.TheVariants as kind
use Rattle.dcc_act.specs.declared.one_time_event.Action.{Action}
use Rattle.dcc_act.specs.declared.one_time_event.Action.TheVariants as action
use Rattle.dcc_act.specs.declared.request_key.RequestKey.{RequestKey}
use Rattle.dcc_act.specs.declared.service.Form.{Form}
use Rattle.dcc_act.specs.declared.service.Form.TheVariants as form
use Rattle.dcc_act.specs.declared.session_limit.SessionLimit.{SessionLimit}
use Rattle.dcc_act.specs.declared.session_request.SessionRequest.{SessionRequest}
use Rattle.dcc_act.specs.Limits.{most_sessions}
use Rattle.dcc_act.specs.OneTimeEvents.{OneTimeEventView}
use Rattle.dcc_act.specs.Services.{ServiceView}
use Rattle.dcc_act.specs.TopUps.{TopUpView}

-- numbers of four octets and of eight
abbrev pub u32_octets : ℕ → List ℕ
u32_octets number = to_be_bytes w32 number

abbrev pub u64_octets : ℕ → List ℕ
u64_octets number = to_be_bytes w64 number

-- a value that may be absent: 0; or 1, and the value
abbrev pub optional : {A : Type 0} → (A → List ℕ) → Option A → List ℕ
optional octets_of None = 0 ∷ []
optional octets_of (Some value) = 1 ∷ octets_of value

-- a top-up: its ticket and its amount
unfoldable pub top_up_octets : TopUpView → List ℕ
top_up_octets top_up = u64_octets top_up.ticket ++ u64_octets top_up.amount

-- a Session-Id: its length in one octet, and its octets
unfoldable pub session_octets : List ℕ → List ℕ
session_octets sid = length sid ∷ sid

-- a key: a Session-Id, and the number of the request
unfoldable pub key_octets : RequestKey → List ℕ
key_octets key = session_octets key.sid ++ u32_octets key.number

-- the form of a service, its kind of units, and the action of a one-time event: one octet each
abbrev pub form_octet : Form → ℕ
form_octet form.Single = 0
form_octet form.Multi = 1

abbrev pub unit_octet : Option UnitKind → ℕ
unit_octet None = 0
unit_octet (Some unit.Octets) = 1
unit_octet (Some unit.Time) = 2
unit_octet (Some unit.Units) = 3

abbrev pub action_octet : Action → ℕ
action_octet action.DirectDebiting = 0
action_octet action.RefundAccount = 1
action_octet action.CheckBalance = 2
action_octet action.PriceEnquiry = 3

-- identifiers: their count in two octets, and each
unfoldable pub ids_octets : List ℕ → List ℕ
ids_octets ids = to_be_bytes w16 (length ids) ++ flat_map u32_octets ids

-- a tariff: the price of a block, and the units of a block
unfoldable pub tariff_octets : TariffView → List ℕ
tariff_octets tariff = u32_octets tariff.price ++ u64_octets tariff.block

-- a service: its form, its group, its identifiers, the units that it asks for, the units that it reports, the kind of units, and its tariff
unfoldable pub service_octets : ServiceView → List ℕ
service_octets service =
    form_octet service.form ∷ optional u32_octets service.group ++ ids_octets service.ids
    ++ optional u64_octets service.asked ++ optional u64_octets service.used
    ++ unit_octet service.unit ∷ optional tariff_octets service.tariff

-- services: their count in one octet, and each
unfoldable pub services_octets : List ServiceView → List ℕ
services_octets services = length services ∷ flat_map service_octets services

-- a request of a session: its key, and its services
unfoldable pub request_octets : SessionRequest → List ℕ
request_octets request = key_octets request.key ++ services_octets request.services

-- the limit of open sessions: their number in two octets
unfoldable pub limit_octets : SessionLimit → List ℕ
limit_octets limit = to_be_bytes w16 (most_sessions limit)

-- a host: the length of its name in one octet, and the octets of the name; 0 if the host is not known
unfoldable pub host_octets : Option (List ℕ) → List ℕ
host_octets None = 0 ∷ []
host_octets (Some host) = length host ∷ host

-- an initial request: its key, the limit by which it was judged, the host that it came from, and its services
unfoldable pub opening_octets : SessionRequest → SessionLimit → (host : Option (List ℕ)) → List ℕ
opening_octets request limit host = key_octets request.key ++ limit_octets limit ++ host_octets host ++ services_octets request.services

-- a one-time event: its key, its action, and a list with its single service
unfoldable pub event_octets : OneTimeEventView → List ℕ
event_octets event = key_octets event.key ++ action_octet event.action ∷ services_octets (event.service ∷ [])

-- the octet that stands for a kind, and the parts of the kind
abbrev pub kind_octet : Kind → ℕ
kind_octet (kind.TopUp top_up) = 1
kind_octet (kind.Initial request limit host) = 2
kind_octet (kind.Update request) = 3
kind_octet (kind.Termination request) = 4
kind_octet (kind.Event event) = 5
kind_octet kind.Expiry = 6

abbrev pub kind_octets : Kind → List ℕ
kind_octets (kind.TopUp top_up) = top_up_octets top_up
kind_octets (kind.Initial request limit host) = opening_octets request limit host
kind_octets (kind.Update request) = request_octets request
kind_octets (kind.Termination request) = request_octets request
kind_octets (kind.Event event) = event_octets event
kind_octets kind.Expiry = []

-- a record: the version, the octet of the act's kind, its moment, and the parts of its kind
unfoldable pub record_of : Act → List ℕ
record_of act = 2 ∷ kind_octet act.kind ∷ u64_octets act.moment ++ kind_octets act.kind
