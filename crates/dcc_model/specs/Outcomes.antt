-- The outcome of each act of one subscriber's list. `past` is the acts that were made, the latest first.
use Rattle.std.specs.Prelude.{ℕ, zero, suc, ◌+◌, ⊤, ℤ, pos, ◌+ℤ◌, ◌-ℤ◌, neg_ℤ, int_lt, Bool, true, false, not, ◌&&◌, ◌||◌, ◌==◌, nat_le, nat_lt, if◌then◌else◌, List, [], ◌∷◌, ◌++◌, length, map, reverse, take, count_by, Option, Some, None, is_none, option_map, find, slice_get, unwrap_or}
use Rattle.std.specs.List.{list_any}
use Rattle.std.specs.Option.{option_map_or}
use Rattle.dcc_tariff.specs.Prices.{covers, best}
use Rattle.dcc_tariff.specs.Terms.{TermsView}
use Rattle.dcc_act.specs.Limits.{most_sessions}
use Rattle.dcc_act.specs.declared.act.Act.{Act}
use Rattle.dcc_act.specs.declared.one_time_event.Action.{Action}
use Rattle.dcc_act.specs.declared.one_time_event.Action.TheVariants.{DirectDebiting, RefundAccount, CheckBalance, PriceEnquiry}
use Rattle.dcc_act.specs.declared.one_time_event.OneTimeEvent.{OneTimeEvent}
use Rattle.dcc_act.specs.declared.act.Kind.{Kind}
use Rattle.dcc_act.specs.declared.act.Kind.TheVariants as kind
use Rattle.dcc_act.specs.declared.top_up.TopUp.{TopUp}
use Rattle.dcc_act.specs.declared.grant.Grant.{Grant}
use Rattle.dcc_act.specs.declared.outcome.Outcome.{Outcome}
use Rattle.dcc_act.specs.declared.outcome.Outcome.TheVariants.{Unknown, Answered, Added, Ceiling, Expired}
use Rattle.dcc_act.specs.declared.outcome.RequestType.{RequestType}
use Rattle.dcc_act.specs.declared.outcome.RequestType.TheVariants as request
use Rattle.dcc_act.specs.declared.outcome.ResultCode.{ResultCode}
use Rattle.dcc_act.specs.declared.outcome.ResultCode.TheVariants.{Success, CreditLimitReached, UnknownSession, ResourcesExceeded, UnableToComply, RatingFailed}
use Rattle.dcc_act.specs.declared.outcome.Balance.{Balance}
use Rattle.dcc_act.specs.declared.outcome.Balance.TheVariants.{EnoughCredit, NoCredit}
use Rattle.dcc_act.specs.declared.outcome.ServiceAnswer.{ServiceAnswer}
use Rattle.dcc_act.specs.declared.request_key.RequestKey.{RequestKey}
use Rattle.dcc_act.specs.declared.service.Form.TheVariants.{Single, Multi}
use Rattle.dcc_act.specs.Services.{service_key}
use Rattle.dcc_act.specs.declared.service.Service.{Service}
use Rattle.dcc_act.specs.declared.session_limit.SessionLimit.{SessionLimit}
use Rattle.dcc_model.specs.declared.done.Done.{Done}
use Rattle.dcc_model.specs.declared.decide.TheConstants.{CEILING}
use Rattle.dcc_model.specs.declared.decide.EventResult.{EventResult}
use Rattle.dcc_model.specs.declared.judgement.Standing.{Standing}
use Rattle.dcc_model.specs.Keys.{request_key, same_key, same_request, is_top_up, is_expiry}
use Rattle.dcc_model.specs.Sessions.{Sid, deadline, is_open, was_opened, was_opened_in, open_sessions, live, looked_at}
use Rattle.dcc_model.specs.Money.{asked_units, grant_price, is_unrated_by, charges, funds_of, overrun_of, free_of, room}

-- an account exists from its first top-up
abbrev pub has_account : List Done → Bool
has_account past = list_any (λ done. is_top_up done.act.kind) past

abbrev pub has_top_up : List Act → Bool
has_top_up all = list_any (λ act. is_top_up act.kind) all

-- a request counts once there is an account, any other act always
abbrev pub counts : List Done → Kind → Bool
counts past kind = has_account past || is_none (request_key kind)

-- the made act that has the key of this kind
abbrev pub first_of : List Done → Kind → Option Done
first_of past kind = find (λ done. same_key kind done.act.kind) past

-- the answer with a service's own group, identifiers and form
abbrev pub answer_with : Service → ResultCode → Option Grant → Bool → ServiceAnswer
answer_with service code grant last =
    record { group = service.group; ids = service.ids; form = service.form; result = code; grant = grant; is_final = last }

-- so many of the units that are asked for; the grant is final if they are fewer, and there is no grant of 0 units
abbrev pub granted : Service → Grant → ℕ → ServiceAnswer
granted service asked units =
    if units == 0 then answer_with service CreditLimitReached None false
    else answer_with service Success (Some (record asked { units = units })) (nat_lt units asked.units)

-- a service is granted the most of the units that it asks for that its room covers; without a tariff there is no price
abbrev pub granted_within : Service → ℤ → Option Grant → ServiceAnswer
granted_within service space None = answer_with service RatingFailed None false
granted_within service space (Some asked) = granted service asked (best asked.tariff asked.units space)

-- a service that asks for no units succeeds
abbrev pub asked_answer : Service → ℤ → ServiceAnswer
asked_answer service space = if is_none service.asked then answer_with service Success None false else granted_within service space (asked_units service)

-- if no tariff charges a service's report, the result is a failure, and nothing is granted
abbrev pub answer_by : Option Grant → Service → ℤ → ServiceAnswer
answer_by live service space = if is_unrated_by live service then answer_with service RatingFailed None false else asked_answer service space

abbrev pub answer_to : TermsView → List Done → Sid → Service → ℤ → ServiceAnswer
answer_to terms past sid service space = answer_by (live terms past sid (service_key service)) service space

-- the answers to a request's services in order, each in the room that the services before leave
abbrev pub answers : TermsView → List Done → Sid → List Service → (before : List ServiceAnswer) → List Service → List ServiceAnswer
answers terms past sid services before [] = []
answers terms past sid services before (service ∷ rest) =
    let answer = answer_to terms past sid service (room terms past sid services before) in
    answer ∷ answers terms past sid services (before ++ answer ∷ []) rest

-- the command's result: that of a service at the message's level, which is the only service, or else success
abbrev pub command_result : List ServiceAnswer → ResultCode
command_result (answer ∷ []) = elim answer.form as (λ _. ResultCode) [ Single ↦ answer.result | Multi ↦ Success ]
command_result _ = Success

abbrev pub answered : RequestType → RequestKey → List ServiceAnswer → Outcome
answered type key services =
    Answered (record { request = type; key = key; result = command_result services; services = services; cost = None; balance = None })

abbrev pub served : TermsView → List Done → RequestType → RequestKey → List Service → Outcome
served terms past type key services = answered type key (answers terms past key.sid services [] services)

-- an answer with its result alone
abbrev pub bare : RequestType → RequestKey → ResultCode → Outcome
bare type key code = Answered (record { request = type; key = key; result = code; services = []; cost = None; balance = None })

-- a session opens once, and only while fewer are open than the act's own limit
abbrev pub begun : TermsView → List Done → RequestKey → SessionLimit → List Service → Outcome
begun terms past key limit services =
    if was_opened past key.sid then bare request.Initial key UnableToComply
    else if nat_le (most_sessions limit) (length (open_sessions terms past)) then bare request.Initial key ResourcesExceeded
    else served terms past request.Initial key services

-- funds are below the floor
abbrev pub is_below_floor : ℤ → Bool
is_below_floor funds = int_lt funds (neg_ℤ CEILING)

-- these charges would take the funds below the floor
abbrev pub is_under : ℤ → ℕ → Bool
is_under funds charged = is_below_floor (funds -ℤ pos charged)

-- an update or a termination, whose session has to be open and whose charges the floor has to bear
abbrev pub reported : TermsView → List Done → RequestType → RequestKey → List Service → Outcome
reported terms past type key services =
    if not (is_open terms past key.sid) then bare type key UnknownSession
    else if is_under (funds_of terms past) (charges terms past key.sid services) then bare type key UnableToComply
    else served terms past type key services

-- the number of sessions that an expiry at this moment ends
abbrev pub expired : TermsView → List Done → ℕ → ℕ
expired terms past moment = count_by (λ sid. nat_le (deadline terms past sid) moment) (open_sessions terms past)

-- an event's answer has one service, whose result is the command's
abbrev pub event_answer : OneTimeEvent → EventResult → Outcome
event_answer event found =
    Answered (record {
      request = request.Event;
      key = event.key;
      result = found.result;
      services = answer_with event.service found.result found.grant false ∷ [];
      cost = found.cost;
      balance = found.balance;
    })

-- a result alone
abbrev pub result_of : ResultCode → EventResult
result_of code = record { result = code; grant = None; cost = None; balance = None }

-- so much more money would lift the funds above the ceiling
abbrev pub is_over : ℤ → ℕ → Bool
is_over funds amount = int_lt CEILING (funds +ℤ pos amount)

-- a direct debit is made if its price is 0 or within the free money, and then grants the units that it asks for (RFC 8506, section 6.3)
abbrev pub debited : ℤ → Grant → EventResult
debited free asked =
    if covers free (grant_price asked) then record { result = Success; grant = Some asked; cost = None; balance = None }
    else result_of CreditLimitReached

-- a refund is made unless it would lift the funds above the ceiling (section 6.4)
abbrev pub refund_made : ℤ → Grant → EventResult
refund_made funds asked = if is_over funds (grant_price asked) then result_of UnableToComply else result_of Success

-- a balance check reports whether a direct debit would be made, and reserves nothing (section 6.2)
abbrev pub balance_for : ℤ → Grant → Balance
balance_for free asked = if covers free (grant_price asked) then EnoughCredit else NoCredit

abbrev pub checked : ℤ → Grant → EventResult
checked free asked = record { result = Success; grant = None; cost = None; balance = Some (balance_for free asked) }

-- a price enquiry reports the price (section 6.1)
abbrev pub enquired : Grant → EventResult
enquired asked = record { result = Success; grant = None; cost = Some (grant_price asked); balance = None }

abbrev pub acted : ℤ → ℤ → Action → Grant → EventResult
acted funds free DirectDebiting asked = debited free asked
acted funds free RefundAccount asked = refund_made funds asked
acted funds free CheckBalance asked = checked free asked
acted funds free PriceEnquiry asked = enquired asked

-- without a tariff there is no price, whatever the action is
abbrev pub event_result : ℤ → ℤ → Action → Option Grant → EventResult
event_result funds free action None = result_of RatingFailed
event_result funds free action (Some asked) = acted funds free action asked

-- the outcome of an event at these funds and this free money
abbrev pub event_outcome : ℤ → ℤ → OneTimeEvent → Outcome
event_outcome funds free event = event_answer event (event_result funds free event.action (asked_units event.service))

-- a top-up is added unless it would lift the funds above the ceiling
abbrev pub top_up_outcome : ℤ → TopUp → Outcome
top_up_outcome funds top_up = if is_over funds top_up.amount then Ceiling else Added

-- the outcome of an act that is made
abbrev pub decided : TermsView → List Done → (moment : ℕ) → Kind → Outcome
decided terms past moment (kind.TopUp top_up) = top_up_outcome (funds_of terms past) top_up
decided terms past moment (kind.Initial opening limit host) = begun terms past opening.key limit (looked_at (kind.Initial opening limit host))
decided terms past moment (kind.Update report) = reported terms past request.Update report.key (looked_at (kind.Update report))
decided terms past moment (kind.Termination report) = reported terms past request.Termination report.key (looked_at (kind.Termination report))
decided terms past moment (kind.Event event) = event_outcome (funds_of terms past) (free_of terms past) event
decided terms past moment kind.Expiry = Expired (expired terms past moment)

-- the outcome of a request without an account, under its own type and key; a top-up and an expiry need no account
abbrev pub unknown_of : Kind → Option Outcome
unknown_of (kind.TopUp top_up) = None
unknown_of (kind.Initial opening limit host) = Some (Unknown request.Initial opening.key)
unknown_of (kind.Update report) = Some (Unknown request.Update report.key)
unknown_of (kind.Termination report) = Some (Unknown request.Termination report.key)
unknown_of (kind.Event event) = Some (Unknown request.Event event.key)
unknown_of kind.Expiry = None

-- a repeat has the outcome of the first act
abbrev pub settled : TermsView → List Done → Act → Outcome
settled terms past act = option_map_or (λ (done : Done). done.outcome) (first_of past act.kind) (decided terms past act.moment act.kind)

-- without an account a request is of an unknown user
abbrev pub judged : TermsView → List Done → Act → Outcome
judged terms past act =
    if has_account past then settled terms past act else unwrap_or (unknown_of act.kind) (settled terms past act)

-- an act is made if it counts and its key is new, and an expiry if it ends a session
abbrev pub is_made : TermsView → List Done → Act → Bool
is_made terms past act =
    if is_expiry act.kind then nat_lt 0 (expired terms past act.moment) else counts past act.kind && is_none (first_of past act.kind)

-- the acts that were made, and one more if it is made
abbrev pub with_act : TermsView → List Done → Act → List Done
with_act terms past act = if is_made terms past act then record { act = act; outcome = judged terms past act } ∷ past else past

-- the acts that were made, each with its outcome; this list and the given one have the latest first
abbrev pub history : TermsView → List Act → List Done
history terms [] = []
history terms (act ∷ earlier) = with_act terms (history terms earlier) act

-- of a made act: the act, and its outcome
abbrev pub act_made : Done → Act
act_made done = done.act

abbrev pub outcome_of : Done → Outcome
outcome_of done = done.outcome

-- the outcome of the request of this key that was made
abbrev pub kept_of : List Done → RequestKey → Option Outcome
kept_of past key = option_map outcome_of (find (λ done. same_request (Some key) (request_key done.act.kind)) past)

-- the place of the act of this key among acts, the latest first; the place counts from the earliest
abbrev pub place_of_key : List Act → Kind → Option ℕ
place_of_key [] kind = None
place_of_key (act ∷ earlier) kind = if same_key kind act.kind then Some (length earlier + 1) else place_of_key earlier kind

-- the place of one more act: a new act stands behind all others, and another act where the act of its key stands
abbrev pub place_of : TermsView → List Done → Act → Option ℕ
place_of terms past act = if is_made terms past act then Some (length past + 1) else place_of_key (map act_made past) act.kind

-- the outcome of one more act after a list of acts in order
unfoldable pub after : TermsView → List Act → Act → Outcome
after terms before act = judged terms (history terms (reverse before)) act

-- whether that act is made
unfoldable pub is_new : TermsView → List Act → Act → Bool
is_new terms before act = is_made terms (history terms (reverse before)) act

-- its place among the made acts, counted from 1, or that of the act that was made with its key; a request of an unknown user and
-- an expiry that ends nothing have no place
unfoldable pub place : TermsView → List Act → Act → Option ℕ
place terms before act = place_of terms (history terms (reverse before)) act

-- whether these acts opened the session from the host; the session may be open or ended, and an act that isn't made opens nothing
unfoldable pub was_opened_from : TermsView → List Act → (host : List ℕ) → Sid → Bool
was_opened_from terms all host sid = was_opened_in (history terms (reverse all)) host sid

-- the outcome of the act at a place of a list, counted from 1, after the acts before it; none if no act stands there
unfoldable pub outcome : TermsView → List Act → ℕ → Option Outcome
outcome terms all zero = None
outcome terms all (suc before) = option_map (after terms (take before all)) (slice_get all before)

-- the made acts of a list, in order
unfoldable pub acts : TermsView → List Act → List Act
acts terms all = reverse (map act_made (history terms (reverse all)))

-- the money of an account after these acts
abbrev pub standing_of : TermsView → List Done → Standing
standing_of terms past = record { funds = funds_of terms past; free = free_of terms past; overrun = pos (overrun_of terms past) }

-- the account after the whole list
unfoldable pub funds : TermsView → List Act → ℤ
funds terms all = funds_of terms (history terms (reverse all))

unfoldable pub overrun : TermsView → List Act → ℕ
overrun terms all = overrun_of terms (history terms (reverse all))

unfoldable pub free : TermsView → List Act → ℤ
free terms all = free_of terms (history terms (reverse all))

unfoldable pub standing : TermsView → List Act → Standing
standing terms all = standing_of terms (history terms (reverse all))

unfoldable pub kept : TermsView → List Act → RequestKey → Option Outcome
kept terms all key = kept_of (history terms (reverse all)) key

abbrev pub is_unknown : Outcome → Bool
is_unknown (Unknown request key) = true
is_unknown _ = false

-- the outcomes that a request may have
abbrev pub IsOfRequest : Outcome → Type 0
IsOfRequest (Unknown request key) = ⊤
IsOfRequest (Answered answer) = ⊤
IsOfRequest Added = ⊥
IsOfRequest Ceiling = ⊥
IsOfRequest (Expired sessions) = ⊥

-- the outcomes that a top-up may have
abbrev pub IsOfTopUp : Outcome → Type 0
IsOfTopUp (Unknown request key) = ⊥
IsOfTopUp (Answered answer) = ⊥
IsOfTopUp Added = ⊤
IsOfTopUp Ceiling = ⊤
IsOfTopUp (Expired sessions) = ⊥

-- the outcomes that an expiry may have
abbrev pub IsOfExpiry : Outcome → Type 0
IsOfExpiry (Unknown request key) = ⊥
IsOfExpiry (Answered answer) = ⊥
IsOfExpiry Added = ⊥
IsOfExpiry Ceiling = ⊥
IsOfExpiry (Expired sessions) = ⊤
