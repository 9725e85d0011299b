-- A peer's capabilities: the name of its host, the applications that it shares and the security that it wants (RFC 6733, section 5.3).
use Rattle.std.specs.Prelude.{ℕ, Bool, false, ◌&&◌, ◌||◌, if◌then◌else◌, List, find, Option, Some, None, is_none, option_map, Result, Ok, Err}
use Rattle.std.specs.Int.{w32}
use Rattle.std.specs.List.{list_any}
use Rattle.std.specs.Option.{option_map_or}
use Rattle.dcc_octets.specs.Numbers.{number_in}
use Rattle.dcc_avp.specs.Spelling.{AvpView, has_code}
use Rattle.dcc_avp.specs.declared.codes.TheConstants.{ORIGIN_HOST, AUTH_APPLICATION_ID, INBAND_SECURITY_ID}
use Rattle.dcc_message.specs.declared.applications.TheConstants as applications
use Rattle.dcc_request.specs.declared.cause.Cause.{Cause}
use Rattle.dcc_request.specs.declared.cause.Cause.TheVariants.{InvalidAvpLength, NoCommonApplication, NoCommonSecurity}
use Rattle.dcc_request.specs.Refusals.{Refusal, refusal, bare, first_some, ◌>>=◌, clear}
use Rattle.dcc_request.specs.Values.{required, name_octets}
use Rattle.dcc_request.specs.Walk.{GroupView}
use Rattle.dcc_answer.specs.Results.{is_just}
use Rattle.dcc_base.specs.declared.capabilities.TheConstants.{NO_INBAND_SECURITY}

-- ---- numbers of four octets

-- the data is no number of four octets
abbrev pub is_misshapen : AvpView → Bool
is_misshapen avp = is_none (number_in w32 avp.value)

-- the data is this number
abbrev pub tells : ℕ → AvpView → Bool
tells n avp = is_just n (number_in w32 avp.value)

-- the refusal of the first AVP of a code that is no number of four octets
abbrev pub misshapen_in : ℕ → List AvpView → Option Refusal
misshapen_in code avps = option_map (refusal InvalidAvpLength) (find (λ avp. has_code code avp && is_misshapen avp) avps)

-- ---- applications

-- the application is credit control, or that of relays, which forward any (section 2.4)
abbrev pub is_shared : AvpView → Bool
is_shared avp = tells applications.CREDIT_CONTROL avp || tells applications.RELAY avp

-- the first Auth-Application-Id inside a Vendor-Specific-Application-Id; no other inside it counts (section 6.11)
abbrev pub application_in : GroupView → Option AvpView
application_in group = find (has_code AUTH_APPLICATION_ID) group.list.avps

-- its refusal, if it is no number of four octets
abbrev pub refused_if_misshapen : Option AvpView → Option Refusal
refused_if_misshapen None = None
refused_if_misshapen (Some avp) = if is_misshapen avp then Some (refusal InvalidAvpLength avp) else None

abbrev pub misshapen_inside : GroupView → Option Refusal
misshapen_inside group = refused_if_misshapen (application_in group)

-- an Auth-Application-Id of the message, or the first inside a Vendor-Specific-Application-Id, is of a shared application
abbrev pub names_shared : AvpView → Bool
names_shared avp = has_code AUTH_APPLICATION_ID avp && is_shared avp

abbrev pub names_shared_inside : GroupView → Bool
names_shared_inside group = option_map_or is_shared (application_in group) false

abbrev pub any_shared : List AvpView → Bool
any_shared avps = list_any names_shared avps

abbrev pub any_shared_inside : List GroupView → Bool
any_shared_inside groups = list_any names_shared_inside groups

abbrev pub shares_application : List AvpView → List GroupView → Bool
shares_application avps groups = any_shared avps || any_shared_inside groups

-- ---- security

-- there is no Inband-Security-Id, or an Inband-Security-Id wants no security (section 6.10)
abbrev pub wants_none : AvpView → Bool
wants_none avp = has_code INBAND_SECURITY_ID avp && tells NO_INBAND_SECURITY avp

abbrev pub any_wants_none : List AvpView → Bool
any_wants_none avps = list_any wants_none avps

abbrev pub shares_security : List AvpView → Bool
shares_security avps = is_none (find (has_code INBAND_SECURITY_ID) avps) || any_wants_none avps

-- ---- all values of the request

-- `Ok` if the demand holds, else the refusal with this cause
abbrev pub demand : Bool → Cause → Result (Unit {0}) Refusal
demand holds cause = if holds then Ok tt else Err (bare cause)

-- The name of the peer's host, or the first refusal: of that name; of a number's size in the message's list and then in its groups;
-- for want of an application that both have; for want of a security that both have.
unfoldable pub host_of : List AvpView → List GroupView → Result (List ℕ) Refusal
host_of avps groups = do
  origin ← required avps ORIGIN_HOST
  host ← name_octets origin
  applications_fit ← clear (misshapen_in AUTH_APPLICATION_ID avps)
  securities_fit ← clear (misshapen_in INBAND_SECURITY_ID avps)
  groups_fit ← clear (first_some misshapen_inside groups)
  application ← demand (shares_application avps groups) NoCommonApplication
  security ← demand (shares_security avps) NoCommonSecurity
  Ok host
