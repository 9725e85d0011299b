-- The credit-control request that a message holds, or its first fault (RFC 8506, section 3.1).
use Rattle.std.specs.Prelude.{ℕ, ◌≤◌, Bool, ◌&&◌, ◌||◌, nat_le, List, [], length, Option, None, is_none, Result, Ok}
use Rattle.std.specs.List.{sum_by, list_all}
use Rattle.dcc_avp.specs.Spelling.{AvpView, padded_len}
use Rattle.dcc_avp.specs.declared.codes.TheConstants.{SESSION_ID, AUTH_APPLICATION_ID, CC_REQUEST_TYPE, CC_REQUEST_NUMBER}
use Rattle.dcc_message.specs.declared.applications.TheConstants.{CREDIT_CONTROL}
use Rattle.dcc_message.specs.declared.length.TheConstants.{MAX_LENGTH}
use Rattle.dcc_act.specs.Services.{is_multi}
use Rattle.dcc_act.specs.Subs.{SubView}
use Rattle.dcc_act.specs.declared.service.Form.TheVariants.{Single}
use Rattle.dcc_request.specs.declared.command.Command.TheVariants.{CreditControl}
use Rattle.dcc_request.specs.declared.stop.Stop.{Stop}
use Rattle.dcc_request.specs.declared.stop.Stop.TheVariants.{Refused, Memory}
use Rattle.dcc_request.specs.declared.table.TheConstants.{MAX_SERVICES}
use Rattle.dcc_request.specs.Refusals.{Refusal, clear, ◌>>=◌}
use Rattle.dcc_request.specs.Checks.{checked}
use Rattle.dcc_request.specs.Values.{required, name_octets, number, number_within}
use Rattle.dcc_ccr.specs.declared.request_type.RequestType.{RequestType}
use Rattle.dcc_ccr.specs.Types.{type_of}
use Rattle.dcc_ccr.specs.Subscribers.{subscriber_of}
use Rattle.dcc_ccr.specs.Services.{ServiceView, service_in, multi_of, services_of}
use Rattle.dcc_ccr.specs.Contradictions.{repeated, contradiction}

-- a request: its subscriber, if it names any, its session, its number, its type, and its services
pub record RequestView : Type 0 where
  pub sub : Option SubView
  pub session : List ℕ
  pub number : ℕ
  pub type : RequestType
  pub services : List ServiceView

-- at most 32 services, and no two of one key
abbrev pub are_services : List ServiceView → Bool
are_services services = nat_le (length services) MAX_SERVICES && is_none (repeated [] services)

-- a service in single form is the only service
abbrev pub stand_right : List ServiceView → Bool
stand_right services = nat_le (length services) 1 || list_all (λ service. is_multi service.form) services

-- the number of Service-Identifiers of all services
abbrev pub count_ids : List ServiceView → ℕ
count_ids services = sum_by (λ service. length service.ids) services

-- all values of a message: those of the request, and the services at both places
pub record ValuesView : Type 0 where
  pub sub : Option SubView
  pub session : List ℕ
  pub number : ℕ
  pub type : RequestType
  pub single : ServiceView
  pub multi : List ServiceView

abbrev pub request_from : ValuesView → RequestView
request_from v = record {
  sub = v.sub;
  session = v.session;
  number = v.number;
  type = v.type;
  services = services_of v.type v.single v.multi;
}

-- the values of a message whose lists passed their checks, in the order in which they are read
unfoldable pub values_of : List AvpView → Result ValuesView Refusal
values_of avps = do
  session ← required avps SESSION_ID >>= name_octets
  application ← required avps AUTH_APPLICATION_ID >>= λ avp. number_within avp CREDIT_CONTROL CREDIT_CONTROL
  kind ← required avps CC_REQUEST_TYPE >>= λ avp. number_within avp 1 4
  number ← required avps CC_REQUEST_NUMBER >>= number
  type ← type_of avps kind
  sub ← subscriber_of avps
  single ← service_in Single None avps
  multi ← multi_of avps
  Ok (record { sub = sub; session = session; number = number; type = type; single = single; multi = multi })

-- The request of a message, or its first fault: the checks of the lists come first, then the values, then the contradictions.
unfoldable pub request_of : List AvpView → Result RequestView Refusal
request_of avps = do
  groups ← checked CreditControl avps
  values ← values_of avps
  agrees ← clear (contradiction values.type values.multi avps)
  Ok (request_from values)

-- the AVPs that a refusal shows fit a message
abbrev pub IsStopWithin : Stop → Type 0
IsStopWithin (Refused refusal) = sum_by padded_len refusal.failed ≤ MAX_LENGTH
IsStopWithin Memory = Unit {0}
