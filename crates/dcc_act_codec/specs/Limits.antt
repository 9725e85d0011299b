-- The limits that the types of every act keep.
use Rattle.std.specs.Prelude.{◌≡◌, ℕ, ◌<◌, ◌≤◌, ◌^◌, true, List, length, All, Option, IfSome}
use Rattle.dcc_tariff.specs.Terms.{IsTariff}
use Rattle.dcc_tariff.specs.declared.limits.TheConstants.{LAST_SECOND}
use Rattle.dcc_octets.specs.Names.{is_short}
use Rattle.dcc_act.specs.declared.act.Act.{Act}
use Rattle.dcc_act.specs.declared.act.Kind.{Kind}
use Rattle.dcc_act.specs.declared.act.Kind.TheVariants.{TopUp, Initial, Update, Termination, Event, Expiry}
use Rattle.dcc_act.specs.declared.limits.TheConstants.{MAX_IDS}
use Rattle.dcc_act.specs.declared.request_key.RequestKey.{RequestKey}
use Rattle.dcc_act.specs.declared.session_request.SessionRequest.{SessionRequest}
use Rattle.dcc_act.specs.OneTimeEvents.{OneTimeEventView, AsksUnits}
use Rattle.dcc_act.specs.Services.{ServiceView, IsService, are_services}
use Rattle.dcc_act.specs.TopUps.{TopUpView, is_amount}

-- a ticket of eight octets, and an amount that a top-up may have
pub record WithinTopUp (top_up : TopUpView) : Type 0 where
  pub ticket : top_up.ticket < 2 ^ 64
  pub amount : is_amount top_up.amount ≡ true

-- a name of 1 to 255 octets, and a number of four octets
pub record WithinKey (key : RequestKey) : Type 0 where
  pub octets : All (λ octet. octet < 2 ^ 8) key.sid
  pub short : is_short key.sid ≡ true
  pub number : key.number < 2 ^ 32

-- a group and identifiers of four octets each, at most 5,460 of these, a tariff within its limits, and amounts that go with
-- the unit
pub record WithinService (service : ServiceView) : Type 0 where
  pub group : IfSome service.group (λ group. group < 2 ^ 32)
  pub ids : All (λ id. id < 2 ^ 32) service.ids
  pub few_ids : length service.ids ≤ MAX_IDS
  pub tariff : IfSome service.tariff IsTariff
  pub amounts : IsService service.asked service.used service.unit service.tariff

-- a key within its limits, and services that may stand in one request
pub record WithinRequest (request : SessionRequest) : Type 0 where
  pub key : WithinKey request.key
  pub each : All WithinService request.services
  pub services : are_services request.services ≡ true

-- a name of 1 to 255 octets
pub record WithinHost (host : List ℕ) : Type 0 where
  pub octets : All (λ octet. octet < 2 ^ 8) host
  pub short : is_short host ≡ true

-- an initial request, and its host if it is known
pub record WithinOpening (request : SessionRequest) (host : Option (List ℕ)) : Type 0 where
  pub opens : WithinRequest request
  pub from : IfSome host WithinHost

-- a key within its limits, and a service that asks for units
pub record WithinEvent (event : OneTimeEventView) : Type 0 where
  pub key : WithinKey event.key
  pub service : WithinService event.service
  pub asks : AsksUnits event.service

abbrev pub WithinKind : Kind → Type 0
WithinKind (TopUp top_up) = WithinTopUp top_up
WithinKind (Initial request limit host) = WithinOpening request host
WithinKind (Update request) = WithinRequest request
WithinKind (Termination request) = WithinRequest request
WithinKind (Event event) = WithinEvent event
WithinKind Expiry = Unit {0}

-- a moment up to the end of 2099, and a kind within its limits
pub record IsAct (act : Act) : Type 0 where
  pub moment : act.moment ≤ LAST_SECOND
  pub kind : WithinKind act.kind
