-- The type of a request: CC-Request-Type and, in events, Requested-Action (RFC 8506, sections 8.3 and 8.41).
use Rattle.std.specs.Prelude.{ℕ, Bool, true, false, ◌==◌, if◌then◌else◌, List, Result, Ok}
use Rattle.dcc_avp.specs.Spelling.{AvpView}
use Rattle.dcc_avp.specs.declared.codes.TheConstants.{REQUESTED_ACTION}
use Rattle.dcc_request.specs.declared.table.TheConstants.{EVENT_TYPE}
use Rattle.dcc_request.specs.Refusals.{Refusal, ◌>>=◌}
use Rattle.dcc_request.specs.Values.{required, number_within}
use Rattle.dcc_act.specs.declared.one_time_event.Action.{Action}
use Rattle.dcc_act.specs.declared.one_time_event.Action.TheVariants.{DirectDebiting, RefundAccount, CheckBalance, PriceEnquiry}
use Rattle.dcc_ccr.specs.declared.request_type.RequestType.{RequestType}
use Rattle.dcc_ccr.specs.declared.request_type.RequestType.TheVariants.{Initial, Update, Termination, Event}

abbrev pub is_event : RequestType → Bool
is_event (Event action) = true
is_event Initial = false
is_event Update = false
is_event Termination = false

-- the request belongs to a session that was opened before: it is an update or a termination
abbrev pub is_report : RequestType → Bool
is_report (Event action) = false
is_report Initial = false
is_report Update = true
is_report Termination = true

-- the action of a number from 0 to 3
abbrev pub action_from : ℕ → Action
action_from n = if n == 0 then DirectDebiting else if n == 1 then RefundAccount else if n == 2 then CheckBalance else PriceEnquiry

-- the first Requested-Action
unfoldable pub action_of : List AvpView → Result Action Refusal
action_of avps = do
  avp ← required avps REQUESTED_ACTION
  n ← number_within avp 0 3
  Ok (action_from n)

-- the type of a number from 1 to 4; the action is read in an event alone
unfoldable pub type_of : List AvpView → ℕ → Result RequestType Refusal
type_of avps n =
    if n == EVENT_TYPE then (action_of avps >>= λ action. Ok (Event action))
    else if n == 1 then Ok Initial
    else if n == 2 then Ok Update
    else Ok Termination
