-- The services of a request, at the level of the message or each in a Multiple-Services-Credit-Control (RFC 8506, section 8.16).
use Rattle.std.specs.Prelude.{ℕ, ◌≤◌, Bool, true, false, ◌||◌, if◌then◌else◌, List, [], ◌∷◌, filter, Option, is_some, Result, Ok}
use Rattle.std.specs.Option.{ForSome}
use Rattle.dcc_avp.specs.Spelling.{AvpView, has_code}
use Rattle.dcc_avp.specs.declared.codes.TheConstants.{RATING_GROUP, SERVICE_IDENTIFIER, MULTIPLE_SERVICES_CREDIT_CONTROL}
use Rattle.dcc_act.specs.declared.limits.TheConstants.{MAX_SECONDS}
use Rattle.dcc_act.specs.declared.service.Form.{Form}
use Rattle.dcc_act.specs.declared.service.Form.TheVariants.{Multi}
use Rattle.dcc_request.specs.Refusals.{Refusal, each, ◌>>=◌}
use Rattle.dcc_request.specs.Layout.{message_list}
use Rattle.dcc_request.specs.Values.{number}
use Rattle.dcc_ccr.specs.declared.request_type.RequestType.{RequestType}
use Rattle.dcc_ccr.specs.Types.{is_event}
use Rattle.dcc_ccr.specs.Steps.{number_of}
use Rattle.dcc_ccr.specs.Amounts.{AmountsView, asked_in, used_in}

-- one service: its Rating-Group and Service-Identifiers as sent, and the amounts asked for and used, if there are any
pub record ServiceView : Type 0 where
  pub form : Form
  pub group : Option ℕ
  pub ids : List ℕ
  pub asked : Option AmountsView
  pub used : Option AmountsView

-- the seconds asked for fit a CC-Time (RFC 8506, section 8.21)
abbrev pub FitsSeconds : Option AmountsView → Type 0
FitsSeconds asked = ForSome asked (λ amounts. amounts.time ≤ MAX_SECONDS)

-- the service of a group in a list: the identifiers, the amounts asked for, and the amounts used
unfoldable pub service_in : Form → Option ℕ → List AvpView → Result ServiceView Refusal
service_in form group avps = do
  ids ← each number (filter (has_code SERVICE_IDENTIFIER) avps)
  asked ← asked_in avps
  used ← used_in avps
  Ok (record { form = form; group = group; ids = ids; asked = asked; used = used })

-- the service of a Multiple-Services-Credit-Control
unfoldable pub service_of : AvpView → Result ServiceView Refusal
service_of avp = do
  avps ← message_list avp.value
  group ← number_of avps RATING_GROUP
  service_in Multi group avps

-- all of them, in their order
unfoldable pub multi_of : List AvpView → Result (List ServiceView) Refusal
multi_of avps = each service_of (filter (has_code MULTIPLE_SERVICES_CREDIT_CONTROL) avps)

-- some part of the service stands at the level of the message
abbrev pub has_any : List ℕ → Bool
has_any [] = false
has_any (id ∷ ids) = true

abbrev pub is_there : ServiceView → Bool
is_there service = has_any service.ids || is_some service.asked || is_some service.used

-- The services in Multiple-Services-Credit-Control; without any, that of the message, if some part of it is there. An event always has a service.
abbrev pub services_of : RequestType → ServiceView → List ServiceView → List ServiceView
services_of type single [] = if is_event type || is_there single then single ∷ [] else []
services_of type single (service ∷ services) = service ∷ services
