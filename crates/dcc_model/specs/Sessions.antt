-- Sessions: whether a session is open, its deadline, and its grants. `past` is the acts that were made, the latest first, each
-- with its outcome.
use Rattle.std.specs.Prelude.{ℕ, ◌+◌, Bool, false, not, ◌&&◌, ◌||◌, nat_le, if◌then◌else◌, List, [], ◌∷◌, ◌++◌, map, filter, filter_map, find, bytes_eq, Option, Some, None, is_some, option_map, unwrap_or}
use Rattle.std.specs.List.{list_any}
use Rattle.std.specs.Option.{option_and_then, option_or}
use Rattle.dcc_tariff.specs.Terms.{TermsView}
use Rattle.dcc_act.specs.Answers.{answer_key}
use Rattle.dcc_act.specs.ServiceKeys.{same_service}
use Rattle.dcc_act.specs.Services.{ServiceView, service_key}
use Rattle.dcc_act.specs.declared.act.Kind.{Kind}
use Rattle.dcc_act.specs.declared.act.Kind.TheVariants.{Initial, Update, Termination}
use Rattle.dcc_act.specs.declared.grant.Grant.{Grant}
use Rattle.dcc_act.specs.declared.outcome.Outcome.{Outcome}
use Rattle.dcc_act.specs.declared.outcome.ServiceAnswer.{ServiceAnswer}
use Rattle.dcc_act.specs.declared.service_key.ServiceKey.{ServiceKey}
use Rattle.dcc_model.specs.declared.done.Done.{Done}
use Rattle.dcc_model.specs.Keys.{is_expiry}
use Rattle.dcc_model.specs.Results.{succeeded, refused, answers_of}

-- the name of a session
abbrev pub Sid : Type 0
Sid = List ℕ

-- An initial request opens its session if the command succeeds: in multi form unless it is refused as a whole; a service in
-- single form gives the command its own result.
abbrev pub opens_by : Kind → Outcome → Option Sid
opens_by (Initial request limit host) outcome = if succeeded outcome then Some request.key.sid else None
opens_by _ outcome = None

-- an update is accepted unless it is refused as a whole
abbrev pub updates_by : Kind → Outcome → Option Sid
updates_by (Update request) outcome = if refused outcome then None else Some request.key.sid
updates_by _ outcome = None

-- so is a termination
abbrev pub terminates_by : Kind → Outcome → Option Sid
terminates_by (Termination request) outcome = if refused outcome then None else Some request.key.sid
terminates_by _ outcome = None

-- the session of an accepted update or termination
abbrev pub accepted_by : Kind → Outcome → Option Sid
accepted_by kind outcome = option_or (updates_by kind outcome) (terminates_by kind outcome)

abbrev pub is_sid : Option Sid → Sid → Bool
is_sid None sid = false
is_sid (Some a) sid = bytes_eq a sid

abbrev pub opens : Done → Sid → Bool
opens done sid = is_sid (opens_by done.act.kind done.outcome) sid

abbrev pub updates : Done → Sid → Bool
updates done sid = is_sid (updates_by done.act.kind done.outcome) sid

abbrev pub terminates : Done → Sid → Bool
terminates done sid = is_sid (terminates_by done.act.kind done.outcome) sid

-- the host of the peer of an initial request, if it is known
abbrev pub host_by : Kind → Option (List ℕ)
host_by (Initial request limit host) = host
host_by _ = None

abbrev pub is_host : Option (List ℕ) → List ℕ → Bool
is_host None host = false
is_host (Some a) host = bytes_eq a host

-- an act opens a session from a host: the host of the peer whose request opened it
abbrev pub opens_from : Done → (host : List ℕ) → Sid → Bool
opens_from done host sid = opens done sid && is_host (host_by done.act.kind) host

-- the deadline of a session: the plan's hold after the moment of the last act that opened or updated it; 0 if no act did, and
-- then nothing depends on it
abbrev pub deadline : TermsView → List Done → Sid → ℕ
deadline terms [] sid = 0
deadline terms (done ∷ past) sid = if opens done sid || updates done sid then done.act.moment + terms.hold else deadline terms past sid

-- an act ends a session: a termination, an update that doesn't succeed, or an expiry at its deadline or past it
abbrev pub ends : TermsView → List Done → Done → Sid → Bool
ends terms past done sid =
    terminates done sid || (updates done sid && not (succeeded done.outcome)) || (is_expiry done.act.kind && nat_le (deadline terms past sid) done.act.moment)

-- a session is open if an act opened it and no act since ended it
abbrev pub is_open : TermsView → List Done → Sid → Bool
is_open terms [] sid = false
is_open terms (done ∷ past) sid = opens done sid || (is_open terms past sid && not (ends terms past done sid))

-- a session was opened before; it may be open or ended
abbrev pub was_opened : List Done → Sid → Bool
was_opened past sid = list_any (λ done. opens done sid) past

-- a session was opened before from this host
abbrev pub was_opened_in : List Done → (host : List ℕ) → Sid → Bool
was_opened_in past host sid = list_any (λ done. opens_from done host sid) past

-- the sessions that were opened, the latest first
abbrev pub opened : List Done → List Sid
opened past = filter_map (λ done. opens_by done.act.kind done.outcome) past

-- the sessions that are open
abbrev pub open_sessions : TermsView → List Done → List Sid
open_sessions terms past = filter (is_open terms past) (opened past)

abbrev pub without_report : ServiceView → ServiceView
without_report service = record service { used = None }

abbrev pub without_asked : ServiceView → ServiceView
without_asked service = record service { asked = None }

-- the services as their request counts them: those of an initial request without reports, those of a termination without the
-- units that they ask for
abbrev pub looked_at : Kind → List ServiceView
looked_at (Initial request limit host) = map without_report request.services
looked_at (Update request) = request.services
looked_at (Termination request) = map without_asked request.services
looked_at _ = []

-- a service that reports units or asks for some gives back its grant
abbrev pub is_named : ServiceView → Bool
is_named service = is_some service.asked || is_some service.used

abbrev pub named : List ServiceView → List ServiceKey
named services = map service_key (filter is_named services)

-- the session that an act opened, updated or terminated
abbrev pub session_of : Done → Option Sid
session_of done = option_or (opens_by done.act.kind done.outcome) (accepted_by done.act.kind done.outcome)

-- an act names a service of a session
abbrev pub names : Done → Sid → ServiceKey → Bool
names done sid key = is_sid (session_of done) sid && list_any (same_service key) (named (looked_at done.act.kind))

-- the grant that an act made to a service
abbrev pub made : Done → ServiceKey → Option Grant
made done key = option_and_then (λ (answer : ServiceAnswer). answer.grant) (find (λ answer. same_service (answer_key answer) key) (answers_of done.outcome))

-- the grant that the last act which named the service made to it; no act before the opening of the session counts
abbrev pub last_grant : List Done → Sid → ServiceKey → Option Grant
last_grant [] sid key = None
last_grant (done ∷ past) sid key =
    if names done sid key then made done key
    else if opens done sid then None
    else last_grant past sid key

-- a service's grant is live while its session is open
abbrev pub live : TermsView → List Done → Sid → ServiceKey → Option Grant
live terms past sid key = if is_open terms past sid then last_grant past sid key else None

-- a live grant, with its session and its service
pub record Live : Type 0 where
  pub sid : Sid
  pub key : ServiceKey
  pub grant : Grant

-- the grant that an answer made to a service of a session
abbrev pub live_of : Sid → ServiceAnswer → Option Live
live_of sid answer = option_map (λ grant. record { sid = sid; key = answer_key answer; grant = grant }) answer.grant

-- the grants that an act made in its session; the grant of a one-time event is charged at once
abbrev pub made_by : Done → List Live
made_by done = unwrap_or (option_map (λ sid. filter_map (live_of sid) (answers_of done.outcome)) (session_of done)) []

-- a grant goes on unless an act ends its session or names its service
abbrev pub goes_on : TermsView → List Done → Done → Live → Bool
goes_on terms past done held = not (ends terms past done held.sid || names done held.sid held.key)

-- all live grants: those that the latest act made, and the earlier ones that go on
abbrev pub lives : TermsView → List Done → List Live
lives terms [] = []
lives terms (done ∷ past) = made_by done ++ filter (goes_on terms past done) (lives terms past)
