-- The outcome of one more act, and the change that it makes, by the known facts of the acts before it.
use Rattle.std.specs.Prelude.{ℕ, ◌+◌, Bool, not, ◌&&◌, ◌||◌, nat_le, nat_lt, if◌then◌else◌, List, [], ◌∷◌, ◌++◌, length, count_by, filter_map, Option, Some, is_some, is_none, option_map, unwrap_or}
use Rattle.std.specs.Option.{option_to_list, option_map_or}
use Rattle.dcc_tariff.specs.Terms.{TermsView}
use Rattle.dcc_act.specs.Limits.{most_sessions}
use Rattle.dcc_act.specs.Services.{ServiceView}
use Rattle.dcc_act.specs.declared.act.Act.{Act}
use Rattle.dcc_act.specs.declared.act.Kind.{Kind}
use Rattle.dcc_act.specs.declared.act.Kind.TheVariants as kind
use Rattle.dcc_act.specs.declared.entry.Entry.{Entry}
use Rattle.dcc_act.specs.declared.outcome.Outcome.{Outcome}
use Rattle.dcc_act.specs.declared.outcome.Outcome.TheVariants.{Expired}
use Rattle.dcc_act.specs.declared.outcome.RequestType.{RequestType}
use Rattle.dcc_act.specs.declared.outcome.RequestType.TheVariants as request
use Rattle.dcc_act.specs.declared.outcome.ResultCode.TheVariants.{UnknownSession, ResourcesExceeded, UnableToComply}
use Rattle.dcc_act.specs.declared.request_key.RequestKey.{RequestKey}
use Rattle.dcc_act.specs.declared.session_limit.SessionLimit.{SessionLimit}
use Rattle.dcc_model.specs.Entries.{top_up_entry, debit_entry, refund_entry}
use Rattle.dcc_model.specs.Keys.{request_key, is_expiry}
use Rattle.dcc_model.specs.Money.{charged_event, refunded_event, credit, debit}
use Rattle.dcc_model.specs.Outcomes.{bare, is_under, top_up_outcome, event_outcome, unknown_of}
use Rattle.dcc_model.specs.Results.{succeeded, refused, answers_of, is_added}
use Rattle.dcc_model.specs.Sessions.{Sid, looked_at, accepted_by}
use Rattle.dcc_state.specs.declared.change.Change.{Change}
use Rattle.dcc_state.specs.declared.change.Change.TheVariants.{Nothing, Post, Open, End, Expire}
use Rattle.dcc_state.specs.declared.change.Turn.{Turn}
use Rattle.dcc_state.specs.declared.facts.Facts.{Facts}
use Rattle.dcc_session.specs.declared.held.Held.{Held}
use Rattle.dcc_session.specs.Grants.{charges_in, overruns_in}
use Rattle.dcc_state.specs.Backed.{held_by}
use Rattle.dcc_state.specs.OpenSessions.{SessionView, session_in, is_over_at, own_in, own_by}
use Rattle.dcc_state.specs.inner.Grants.{served_in, charge_entries_in}

abbrev pub is_open_in : List SessionView → Sid → Bool
is_open_in sessions sid = is_some (session_in sessions sid)

abbrev pub expired_in : List SessionView → ℕ → ℕ
expired_in sessions moment = count_by (is_over_at moment) sessions

abbrev pub begun_in : Facts → List SessionView → RequestKey → SessionLimit → List ServiceView → Outcome
begun_in facts sessions key limit services =
    if facts.was_opened then bare request.Initial key UnableToComply
    else if nat_le (most_sessions limit) (length sessions) then bare request.Initial key ResourcesExceeded
    else served_in facts.standing.free (own_in sessions key.sid) request.Initial key services

abbrev pub reported_in : Facts → List SessionView → RequestType → RequestKey → List ServiceView → Outcome
reported_in facts sessions type key services =
    if not (is_open_in sessions key.sid) then bare type key UnknownSession
    else if is_under facts.standing.funds (charges_in (own_in sessions key.sid) services) then bare type key UnableToComply
    else served_in facts.standing.free (own_in sessions key.sid) type key services

abbrev pub decided_in : Facts → List SessionView → ℕ → Kind → Outcome
decided_in facts sessions moment (kind.TopUp top_up) = top_up_outcome facts.standing.funds top_up
decided_in facts sessions moment (kind.Initial opening limit host) = begun_in facts sessions opening.key limit (looked_at (kind.Initial opening limit host))
decided_in facts sessions moment (kind.Update report) = reported_in facts sessions request.Update report.key (looked_at (kind.Update report))
decided_in facts sessions moment (kind.Termination report) =
    reported_in facts sessions request.Termination report.key (looked_at (kind.Termination report))
decided_in facts sessions moment (kind.Event event) = event_outcome facts.standing.funds facts.standing.free event
decided_in facts sessions moment kind.Expiry = Expired (expired_in sessions moment)

abbrev pub settled_in : Facts → Option Outcome → List SessionView → Act → Outcome
settled_in facts first sessions act = unwrap_or first (decided_in facts sessions act.moment act.kind)

abbrev pub judged_in : Facts → Option Outcome → List SessionView → Act → Outcome
judged_in facts first sessions act =
    if facts.has_account then settled_in facts first sessions act else unwrap_or (unknown_of act.kind) (settled_in facts first sessions act)

abbrev pub is_made_in : Facts → Option Outcome → List SessionView → Act → Bool
is_made_in facts first sessions act =
    if is_expiry act.kind then nat_lt 0 (expired_in sessions act.moment)
    else (facts.has_account || is_none (request_key act.kind)) && is_none first

abbrev pub place_in : Facts → Bool → Option ℕ
place_in facts new = if new then Some (facts.count + 1) else facts.place

-- the charge of an accepted request, the part of it beyond its session's grants, and the entries of its charges
abbrev pub charged_in : List SessionView → Kind → Outcome → ℕ
charged_in sessions kind outcome = option_map_or (λ sid. charges_in (own_in sessions sid) (looked_at kind)) (accepted_by kind outcome) 0

abbrev pub overran_in : List SessionView → Kind → Outcome → ℕ
overran_in sessions kind outcome = option_map_or (λ sid. overruns_in (own_in sessions sid) (looked_at kind)) (accepted_by kind outcome) 0

abbrev pub entries_in : List Held → ℕ → ℕ → Kind → Outcome → List Entry
entries_in own place moment kind outcome =
    option_map_or (λ sid. charge_entries_in own place moment sid (looked_at kind)) (accepted_by kind outcome) []

abbrev pub entries_with : List Held → ℕ → ℕ → Kind → Outcome → List Entry
entries_with own place moment (kind.TopUp top_up) outcome = if is_added outcome then top_up_entry place moment top_up ∷ [] else []
entries_with own place moment (kind.Event event) outcome =
    option_to_list (option_map (debit_entry place moment event) (charged_event event outcome)) ++
    option_to_list (option_map (refund_entry place moment event) (refunded_event event outcome))
entries_with own place moment kind outcome = entries_in own place moment kind outcome

abbrev pub entries_by_in : List SessionView → ℕ → ℕ → Kind → Outcome → List Entry
entries_by_in sessions place moment kind outcome = entries_with (own_by sessions kind) place moment kind outcome

-- the turn of a session that goes on after its request, or begins with it
abbrev pub turn_with : TermsView → List Held → ℕ → Sid → List ServiceView → Outcome → Turn
turn_with terms own moment sid services outcome =
    record {
      sid = sid;
      name = sid;
      deadline = moment + terms.hold;
      services = services;
      granted = record { grants = filter_map held_by (answers_of outcome); room = length own };
    }

abbrev pub turn_after : TermsView → List SessionView → ℕ → Sid → List ServiceView → Outcome → Turn
turn_after terms sessions moment sid services outcome = turn_with terms (own_in sessions sid) moment sid services outcome

-- a new act's change of the money and of the open sessions
abbrev pub change_with : TermsView → List Held → ℕ → Kind → Outcome → Change
change_with terms own moment (kind.TopUp top_up) outcome = Post (credit (kind.TopUp top_up) outcome) (debit (kind.TopUp top_up) outcome)
change_with terms own moment (kind.Initial opening limit host) outcome =
    if succeeded outcome then Open (turn_with terms own moment opening.key.sid (looked_at (kind.Initial opening limit host)) outcome) else Nothing
change_with terms own moment (kind.Update report) outcome =
    if refused outcome then Nothing
    else if succeeded outcome then Open (turn_with terms own moment report.key.sid (looked_at (kind.Update report)) outcome)
    else End report.key.sid (looked_at (kind.Update report))
change_with terms own moment (kind.Termination report) outcome =
    if refused outcome then Nothing else End report.key.sid (looked_at (kind.Termination report))
change_with terms own moment (kind.Event event) outcome = Post (credit (kind.Event event) outcome) (debit (kind.Event event) outcome)
change_with terms own moment kind.Expiry outcome = Expire moment

abbrev pub change_of : TermsView → List SessionView → ℕ → Kind → Outcome → Change
change_of terms sessions moment kind outcome = change_with terms (own_by sessions kind) moment kind outcome

-- the entries and the change of a made act; none of any other
abbrev pub entries_after : Facts → List SessionView → Act → (new : Bool) → Outcome → List Entry
entries_after facts sessions act new outcome = if new then entries_by_in sessions (facts.count + 1) act.moment act.kind outcome else []

abbrev pub change_after : TermsView → List SessionView → Act → (new : Bool) → Outcome → Change
change_after terms sessions act new outcome = if new then change_of terms sessions act.moment act.kind outcome else Nothing
