-- Reading a record, part for part.
use Rattle.std.specs.Prelude.{ℕ, Bool, true, ◌&&◌, ◌==◌, nat_le, if◌then◌else◌, List, [], ◌∷◌, length, Option, Some, None, is_some, not}
use Rattle.std.specs.Int.{w16, w32, w64}
use Rattle.dcc_tariff.specs.Terms.{TariffView}
use Rattle.dcc_tariff.specs.declared.limits.TheConstants.{LAST_SECOND, MAX_UNITS, MAX_BLOCK_PRICE}
use Rattle.dcc_tariff.specs.declared.tariff.UnitKind.{UnitKind}
use Rattle.dcc_tariff.specs.declared.tariff.UnitKind.TheVariants as unit
use Rattle.dcc_octets.specs.Names.{is_short}
use Rattle.dcc_act.specs.declared.act.Act.{Act}
use Rattle.dcc_act.specs.declared.act.Kind.{Kind}
use Rattle.dcc_act.specs.declared.act.Kind.TheVariants as kind
use Rattle.dcc_act.specs.declared.limits.TheConstants.{FEW_SESSIONS, MAX_SESSIONS, MAX_IDS, MAX_SECONDS}
use Rattle.dcc_act.specs.declared.one_time_event.Action.{Action}
use Rattle.dcc_act.specs.declared.one_time_event.Action.TheVariants as action
use Rattle.dcc_act.specs.declared.request_key.RequestKey.{RequestKey}
use Rattle.dcc_act.specs.declared.service.Form.{Form}
use Rattle.dcc_act.specs.declared.service.Form.TheVariants as form
use Rattle.dcc_act.specs.declared.session_limit.SessionLimit.{SessionLimit}
use Rattle.dcc_act.specs.declared.session_limit.SessionLimit.TheVariants.{Few, Many}
use Rattle.dcc_act.specs.declared.session_request.SessionRequest.{SessionRequest}
use Rattle.dcc_act.specs.OneTimeEvents.{OneTimeEventView}
use Rattle.dcc_act.specs.Services.{ServiceView, are_services}
use Rattle.dcc_act.specs.TopUps.{TopUpView, is_amount}
use Rattle.dcc_act_codec.specs.inner.Readers.{◌>>=◌, Reader, octet_in, front_in, number_in, both, checked, fixed_in, optional_in, counted_in, whole}

-- ---- top-ups

abbrev pub top_up_from : ℕ × ℕ → Option TopUpView
top_up_from parts = if is_amount parts.1 then Some (record { ticket = parts.0; amount = parts.1 }) else None

unfoldable pub top_up_in : Reader TopUpView
top_up_in = checked top_up_from (both (number_in w64) (number_in w64))

-- ---- sessions

unfoldable pub string_in : Reader (List ℕ)
string_in octets = do
  len ← octet_in octets
  front_in len.0 len.1

unfoldable pub session_in : Reader (List ℕ)
session_in = checked (λ sid. if is_short sid then Some sid else None) string_in

unfoldable pub key_in : Reader RequestKey
key_in = checked (λ parts. Some (record { sid = parts.0; number = parts.1 })) (both session_in (number_in w32))

-- ---- parts of one octet

abbrev pub form_from : ℕ → Option Form
form_from octet = if octet == 0 then Some form.Single else (if octet == 1 then Some form.Multi else None)

abbrev pub unit_from : ℕ → Option (Option UnitKind)
unit_from octet =
    if octet == 0 then Some None else
    (if octet == 1 then Some (Some unit.Octets) else (if octet == 2 then Some (Some unit.Time) else (if octet == 3 then Some (Some unit.Units) else None)))

abbrev pub action_from : ℕ → Option Action
action_from octet =
    if octet == 0 then Some action.DirectDebiting else
    (if octet == 1 then Some action.RefundAccount else (if octet == 2 then Some action.CheckBalance else (if octet == 3 then Some action.PriceEnquiry else None)))

unfoldable pub form_in : Reader Form
form_in = checked form_from octet_in

unfoldable pub unit_in : Reader (Option UnitKind)
unit_in = checked unit_from octet_in

unfoldable pub action_in : Reader Action
action_in = checked action_from octet_in

-- ---- services

unfoldable pub ids_in : Reader (List ℕ)
ids_in = checked (λ ids. if nat_le (length ids) MAX_IDS then Some ids else None) (counted_in (number_in w16) (number_in w32))

abbrev pub is_tariff : (price block : ℕ) → Bool
is_tariff price block = nat_le price MAX_BLOCK_PRICE && nat_le 1 block && nat_le block MAX_UNITS

abbrev pub tariff_from : ℕ × ℕ → Option TariffView
tariff_from parts = if is_tariff parts.0 parts.1 then Some (record { price = parts.0; block = parts.1 }) else None

unfoldable pub tariff_in : Reader TariffView
tariff_in = checked tariff_from (both (number_in w32) (number_in w64))

-- a number of units that is absent or 0
abbrev pub is_nothing : Option ℕ → Bool
is_nothing None = true
is_nothing (Some units) = units == 0

-- units that may be reported
abbrev pub is_used : Option ℕ → Bool
is_used None = true
is_used (Some units) = nat_le units MAX_UNITS

-- the most that may be asked for
abbrev pub most_asked : UnitKind → ℕ
most_asked unit.Octets = MAX_UNITS
most_asked unit.Time = MAX_SECONDS
most_asked unit.Units = MAX_UNITS

-- units that may be asked for
abbrev pub is_asked : UnitKind → Option ℕ → Bool
is_asked kind None = true
is_asked kind (Some units) = nat_le 1 units && nat_le units (most_asked kind)

-- amounts that go with the unit, and with whether there is a tariff
unfoldable pub is_service : (asked used : Option ℕ) → Option UnitKind → (rated : Bool) → Bool
is_service asked used None rated = is_nothing asked && is_nothing used && not rated
is_service asked used (Some kind) rated = is_asked kind asked && is_used used

-- the parts of a service, in their order
abbrev pub ServiceParts : Type 0
ServiceParts = ((((Form × Option ℕ) × List ℕ) × Option ℕ) × Option ℕ) × (Option UnitKind × Option TariffView)

abbrev pub service_from : ServiceParts → Option ServiceView
service_from parts =
    if is_service parts.0.0.1 parts.0.1 parts.1.0 (is_some parts.1.1)
    then Some (record {
      group = parts.0.0.0.0.1;
      ids = parts.0.0.0.1;
      form = parts.0.0.0.0.0;
      asked = parts.0.0.1;
      used = parts.0.1;
      unit = parts.1.0;
      tariff = parts.1.1;
    })
    else None

abbrev pub service_parts_in : Reader ServiceParts
service_parts_in =
    both (both (both (both (both form_in (optional_in (number_in w32))) ids_in) (optional_in (number_in w64))) (optional_in (number_in w64)))
    (both unit_in (optional_in tariff_in))

unfoldable pub service_in : Reader ServiceView
service_in = checked service_from service_parts_in

unfoldable pub services_in : Reader (List ServiceView)
services_in = checked (λ services. if are_services services then Some services else None) (counted_in octet_in service_in)

-- ---- requests and events

unfoldable pub request_in : Reader SessionRequest
request_in = checked (λ parts. Some (record { key = parts.0; services = parts.1 })) (both key_in services_in)

-- the limit of so many sessions
abbrev pub limit_from : ℕ → Option SessionLimit
limit_from sessions = if sessions == FEW_SESSIONS then Some Few else (if sessions == MAX_SESSIONS then Some Many else None)

unfoldable pub limit_in : Reader SessionLimit
limit_in = checked limit_from (number_in w16)

-- a host that is not known has a name of no octets
abbrev pub host_from : List ℕ → Option (List ℕ)
host_from [] = None
host_from (octet ∷ octets) = Some (octet ∷ octets)

unfoldable pub host_in : Reader (Option (List ℕ))
host_in = checked (λ name. Some (host_from name)) string_in

-- the parts of an initial request, in their order
abbrev pub OpeningParts : Type 0
OpeningParts = ((RequestKey × SessionLimit) × Option (List ℕ)) × List ServiceView

abbrev pub opening_from : OpeningParts → Kind
opening_from parts = kind.Initial (record { key = parts.0.0.0; services = parts.1 }) parts.0.0.1 parts.0.1

abbrev pub opening_parts_in : Reader OpeningParts
opening_parts_in = both (both (both key_in limit_in) host_in) services_in

unfoldable pub opening_in : Reader Kind
opening_in = checked (λ parts. Some (opening_from parts)) opening_parts_in

abbrev pub event_from : ((RequestKey × Action) × ℕ) × ServiceView → Option OneTimeEventView
event_from parts =
    if is_some parts.1.asked then Some (record { key = parts.0.0.0; action = parts.0.0.1; service = parts.1 }) else None

unfoldable pub event_in : Reader OneTimeEventView
event_in = checked event_from (both (both (both key_in action_in) (fixed_in 1)) service_in)

-- ---- acts

-- the kind that an octet stands for, with its parts in front
unfoldable pub kind_in : ℕ → Reader Kind
kind_in octet octets =
    if octet == 1 then checked (λ top_up. Some (kind.TopUp top_up)) top_up_in octets else
    (if octet == 2 then opening_in octets else
    (if octet == 3 then checked (λ request. Some (kind.Update request)) request_in octets else
    (if octet == 4 then checked (λ request. Some (kind.Termination request)) request_in octets else
    (if octet == 5 then checked (λ event. Some (kind.Event event)) event_in octets else
    (if octet == 6 then Some (kind.Expiry, octets) else None)))))

unfoldable pub moment_in : Reader ℕ
moment_in = checked (λ seconds. if nat_le seconds LAST_SECOND then Some seconds else None) (number_in w64)

-- the head of each record: its version, the octet of the kind, and the moment
unfoldable pub head_in : (version : ℕ) → Reader (ℕ × ℕ)
head_in version octets = do
  front ← fixed_in version octets
  octet ← octet_in front.1
  moment ← moment_in octet.1
  Some ((octet.0, moment.0), moment.1)

-- the act in front, in a version whose kinds these readers read
unfoldable pub act_by : (version : ℕ) → (kinds : ℕ → Reader Kind) → Reader Act
act_by version kinds octets = do
  head ← head_in version octets
  what ← kinds head.0.0 head.1
  Some (record { moment = head.0.1; kind = what.0 }, what.1)

-- the act in front, and the act of all the octets
unfoldable pub first_act_in : Reader Act
first_act_in = act_by 2 kind_in

abbrev pub act_in : List ℕ → Option Act
act_in = whole first_act_in
