-- What an act comes to by what is known is what it comes to by the definitions.
use Rattle.std.proofs.Common.{◌≡◌, ◌≤◌, arith, filter, ℕ, ℤ, Bool, not, ◌&&◌, ◌||◌, cond, List, [], length, refl, sym, ap, ◌∙◌, inl, inr, Option, Some, None}
use Rattle.std.specs.Prelude.{option_map, unwrap_or, is_none, nat_le, nat_lt}
use Rattle.std.specs.Option.{option_map_or}
use Rattle.std.proofs.lemmas.Bool.{cases_Bool}
use Rattle.std.proofs.lemmas.List.{length-map}
use Rattle.dcc_tariff.specs.Terms.{TermsView}
use Rattle.dcc_act.specs.Limits.{most_sessions}
use Rattle.dcc_act.specs.Services.{ServiceView}
use Rattle.dcc_act.specs.declared.act.Act.{Act}
use Rattle.dcc_act.specs.declared.act.Kind.{Kind}
use Rattle.dcc_act.specs.declared.act.Kind.TheVariants as kind
use Rattle.dcc_act.specs.declared.outcome.Outcome.{Outcome}
use Rattle.dcc_act.specs.declared.outcome.Outcome.TheVariants.{Expired}
use Rattle.dcc_act.specs.declared.outcome.RequestType.{RequestType}
use Rattle.dcc_act.specs.declared.outcome.RequestType.TheVariants as request
use Rattle.dcc_act.specs.declared.outcome.ResultCode.TheVariants.{UnknownSession, ResourcesExceeded, UnableToComply}
use Rattle.dcc_act.specs.declared.outcome.ServiceAnswer.{ServiceAnswer}
use Rattle.dcc_act.specs.declared.request_key.RequestKey.{RequestKey}
use Rattle.dcc_act.specs.declared.session_limit.SessionLimit.{SessionLimit}
use Rattle.dcc_model.specs.declared.done.Done.{Done}
use Rattle.dcc_model.specs.declared.judgement.Standing.{Standing}
use Rattle.dcc_model.specs.Entries.{charge_entries, entries_of_kind}
use Rattle.dcc_model.specs.Keys.{request_key, is_expiry}
use Rattle.dcc_model.specs.Laws.{IsOpenedOnce}
use Rattle.dcc_model.specs.Money.{charges, charged, overran, funds_of, free_of}
use Rattle.dcc_model.specs.Outcomes.{bare, is_under, served, begun, reported, expired, answered, top_up_outcome, event_outcome, decided, has_account, first_of, outcome_of, settled, judged, unknown_of, is_made, standing_of}
use Rattle.dcc_model.specs.Results.{refused}
use Rattle.dcc_model.specs.Sessions.{Sid, looked_at, accepted_by, is_open, was_opened, open_sessions, lives}
use Rattle.dcc_session.specs.Grants.{charges_in, overruns_in}
use Rattle.dcc_state.specs.declared.facts.Facts.{Facts}
use Rattle.dcc_session.specs.declared.held.Held.{Held}
use Rattle.dcc_state.specs.Known.{was_opened_by}
use Rattle.dcc_state.specs.Looks.{many_of, most_looks, least_looks}
use Rattle.dcc_state.specs.OpenSessions.{SessionView, AreOpen, held_of, is_of, grants_of, own_in, own_by as held_by_kind}
use Rattle.dcc_state.specs.inner.Grants.{served_in, charge_entries_in}
use Rattle.dcc_state.specs.inner.Judged.{begun_in, reported_in, decided_in, settled_in, judged_in, is_made_in, charged_in, overran_in, entries_by_in}
use Rattle.dcc_state.proofs.OpenOnes.{own_is, open_is, many_are, expired_are}
use Rattle.dcc_state.proofs.OwnGrants.{IsSound, charges_are, overruns_are, answers_are, charge_entries_are}

-- the sessions and the money are those after these acts
pub record Knows (terms : TermsView) (past : List Done) (standing : Standing) (sessions : List SessionView) : Type 0 where
  pub sound : IsSound terms past
  pub once : IsOpenedOnce past
  pub standing_is : standing ≡ standing_of terms past
  pub sessions_are : AreOpen terms past sessions

own_by : (terms : TermsView) (past : List Done) (standing : Standing) (sessions : List SessionView) → Knows terms past standing sessions → (sid : Sid) → own_in sessions sid ≡ grants_of terms past sid
own_by terms past standing sessions knows sid = own_is terms past sessions knows.sound knows.sessions_are sid

served_is : (terms : TermsView) (past : List Done) (standing : Standing) (sessions : List SessionView) → Knows terms past standing sessions → (type : RequestType) (key : RequestKey) (services : List ServiceView)
    → served_in standing.free (own_in sessions key.sid) type key services ≡ served terms past type key services
served_is terms past standing sessions knows type key services =
    ap (λ (free : ℤ). served_in free (own_in sessions key.sid) type key services) (ap (λ (s : Standing). s.free) knows.standing_is)
    ∙ ap (λ (own : List Held). served_in (free_of terms past) own type key services) (own_by terms past standing sessions knows key.sid)
    ∙ ap (λ (made : List ServiceAnswer). answered type key made) (sym (answers_are terms past knows.sound key.sid services [] services))

begun_is : (terms : TermsView) (past : List Done) (facts : Facts) (sessions : List SessionView) → Knows terms past facts.standing sessions → (key : RequestKey) (limit : SessionLimit) (services : List ServiceView)
    → facts.was_opened ≡ was_opened past key.sid → begun_in facts sessions key limit services ≡ begun terms past key limit services
begun_is terms past facts sessions knows key limit services opened =
    let with : Bool → ℕ → Outcome → Outcome = λ was many served.
    cond was (bare request.Initial key UnableToComply) (cond (nat_le (most_sessions limit) many) (bare request.Initial key ResourcesExceeded) served) in
    ap (λ (was : Bool). with was (length sessions) (served_in facts.standing.free (own_in sessions key.sid) request.Initial key services)) opened
    ∙ ap (λ (many : ℕ). with (was_opened past key.sid) many (served_in facts.standing.free (own_in sessions key.sid) request.Initial key services)) (many_are terms past sessions knows.once knows.sessions_are)
    ∙ ap (with (was_opened past key.sid) (length (open_sessions terms past))) (served_is terms past facts.standing sessions knows request.Initial key services)

charged_by : (terms : TermsView) (past : List Done) (standing : Standing) (sessions : List SessionView) → Knows terms past standing sessions → (sid : Sid) (services : List ServiceView)
    → charges_in (own_in sessions sid) services ≡ charges terms past sid services
charged_by terms past standing sessions knows sid services =
    ap (λ (own : List Held). charges_in own services) (own_by terms past standing sessions knows sid) ∙ sym (charges_are terms past knows.sound sid services)

reported_is : (terms : TermsView) (past : List Done) (facts : Facts) (sessions : List SessionView) → Knows terms past facts.standing sessions → (type : RequestType) (key : RequestKey) (services : List ServiceView)
    → reported_in facts sessions type key services ≡ reported terms past type key services
reported_is terms past facts sessions knows type key services =
    let with : Bool → ℤ → ℕ → Outcome → Outcome = λ now funds cost served.
    cond (not now) (bare type key UnknownSession) (cond (is_under funds cost) (bare type key UnableToComply) served) in
    let own = own_in sessions key.sid in
    let made = served_in facts.standing.free own type key services in
    ap (λ (now : Bool). with now facts.standing.funds (charges_in own services) made) (open_is terms past sessions knows.sessions_are key.sid)
    ∙ ap (λ (funds : ℤ). with (is_open terms past key.sid) funds (charges_in own services) made) (ap (λ (s : Standing). s.funds) knows.standing_is)
    ∙ ap (λ (cost : ℕ). with (is_open terms past key.sid) (funds_of terms past) cost made) (charged_by terms past facts.standing sessions knows key.sid services)
    ∙ ap (with (is_open terms past key.sid) (funds_of terms past) (charges terms past key.sid services)) (served_is terms past facts.standing sessions knows type key services)

pub decided_is : (terms : TermsView) (past : List Done) (facts : Facts) (sessions : List SessionView) → Knows terms past facts.standing sessions → (moment : ℕ) (k : Kind)
    → facts.was_opened ≡ was_opened_by past (request_key k) → decided_in facts sessions moment k ≡ decided terms past moment k
decided_is terms past facts sessions knows moment (kind.TopUp top_up) opened = ap (λ (s : Standing). top_up_outcome s.funds top_up) knows.standing_is
decided_is terms past facts sessions knows moment (kind.Initial opening limit host) opened = begun_is terms past facts sessions knows opening.key limit (looked_at (kind.Initial opening limit host)) opened
decided_is terms past facts sessions knows moment (kind.Update report) opened = reported_is terms past facts sessions knows request.Update report.key (looked_at (kind.Update report))
decided_is terms past facts sessions knows moment (kind.Termination report) opened = reported_is terms past facts sessions knows request.Termination report.key (looked_at (kind.Termination report))
decided_is terms past facts sessions knows moment (kind.Event event) opened = ap (λ (s : Standing). event_outcome s.funds s.free event) knows.standing_is
decided_is terms past facts sessions knows moment kind.Expiry opened = ap (λ (n : ℕ). Expired n) (expired_are terms past sessions knows.once knows.sessions_are moment)

from_first : (first : Option Done) (rest : Outcome) → unwrap_or (option_map outcome_of first) rest ≡ option_map_or (λ (done : Done). done.outcome) first rest
from_first None rest = refl
from_first (Some done) rest = refl

none_first : (first : Option Done) → is_none (option_map outcome_of first) ≡ is_none first
none_first None = refl
none_first (Some done) = refl

pub judged_is : (terms : TermsView) (past : List Done) (facts : Facts) (first : Option Outcome) (sessions : List SessionView) (act : Act) → Knows terms past facts.standing sessions
    → facts.was_opened ≡ was_opened_by past (request_key act.kind) → facts.has_account ≡ has_account past → first ≡ option_map outcome_of (first_of past act.kind)
    → judged_in facts first sessions act ≡ judged terms past act
judged_is terms past facts first sessions act knows opened account first_is =
    let with : Bool → Outcome → Outcome = λ has found. cond has found (unwrap_or (unknown_of act.kind) found) in
    let settled_by : settled_in facts first sessions act ≡ settled terms past act =
    ap (λ (o : Option Outcome). unwrap_or o (decided_in facts sessions act.moment act.kind)) first_is
    ∙ ap (unwrap_or (option_map outcome_of (first_of past act.kind))) (decided_is terms past facts sessions knows act.moment act.kind opened)
    ∙ from_first (first_of past act.kind) (decided terms past act.moment act.kind) in
    ap (λ (has : Bool). with has (settled_in facts first sessions act)) account ∙ ap (with (has_account past)) settled_by

pub made_is : (terms : TermsView) (past : List Done) (facts : Facts) (first : Option Outcome) (sessions : List SessionView) (act : Act) → Knows terms past facts.standing sessions
    → facts.has_account ≡ has_account past → first ≡ option_map outcome_of (first_of past act.kind) → is_made_in facts first sessions act ≡ is_made terms past act
made_is terms past facts first sessions act knows account first_is =
    let with : ℕ → Bool → Bool → Bool = λ many has none. cond (is_expiry act.kind) (nat_lt 0 many) ((has || is_none (request_key act.kind)) && none) in
    ap (λ (many : ℕ). with many facts.has_account (is_none first)) (expired_are terms past sessions knows.once knows.sessions_are act.moment)
    ∙ ap (λ (has : Bool). with (expired terms past act.moment) has (is_none first)) account
    ∙ ap (with (expired terms past act.moment) (has_account past)) (ap (λ (o : Option Outcome). is_none o) first_is ∙ none_first (first_of past act.kind))

either : {X : Type 0} (f g : Sid → X) (other : X) → ((sid : Sid) → f sid ≡ g sid) → (session : Option Sid) → option_map_or f session other ≡ option_map_or g session other
either f g other same None = refl
either f g other same (Some sid) = same sid

pub charged_is : (terms : TermsView) (past : List Done) (standing : Standing) (sessions : List SessionView) → Knows terms past standing sessions → (done : Done)
    → charged_in sessions done.act.kind done.outcome ≡ charged terms past done
charged_is terms past standing sessions knows done =
    either _ _ 0 (λ sid. charged_by terms past standing sessions knows sid (looked_at done.act.kind)) (accepted_by done.act.kind done.outcome)

pub overran_is : (terms : TermsView) (past : List Done) (standing : Standing) (sessions : List SessionView) → Knows terms past standing sessions → (done : Done)
    → overran_in sessions done.act.kind done.outcome ≡ overran terms past done
overran_is terms past standing sessions knows done =
    either _ _ 0
    (λ sid. ap (λ (own : List Held). overruns_in own (looked_at done.act.kind)) (own_by terms past standing sessions knows sid) ∙ sym (overruns_are terms past knows.sound sid (looked_at done.act.kind)))
    (accepted_by done.act.kind done.outcome)

entries_are : (terms : TermsView) (past : List Done) (standing : Standing) (sessions : List SessionView) → Knows terms past standing sessions → (place moment : ℕ) (sid : Sid) (services : List ServiceView)
    → charge_entries_in (own_in sessions sid) place moment sid services ≡ charge_entries terms past place moment sid services
entries_are terms past standing sessions knows place moment sid services =
    ap (λ (own : List Held). charge_entries_in own place moment sid services) (own_by terms past standing sessions knows sid) ∙ sym (charge_entries_are terms past knows.sound place moment sid services)

pub entries_is : (terms : TermsView) (past : List Done) (standing : Standing) (sessions : List SessionView) → Knows terms past standing sessions → (place moment : ℕ) (k : Kind) (outcome : Outcome)
    → entries_by_in sessions place moment k outcome ≡ entries_of_kind terms past place moment k outcome
entries_is terms past standing sessions knows place moment (kind.TopUp top_up) outcome = refl
entries_is terms past standing sessions knows place moment (kind.Initial opening limit host) outcome = refl
entries_is terms past standing sessions knows place moment (kind.Update report) outcome =
    elim (cases_Bool (refused outcome)) [ inl t ↦ rw t refl | inr f ↦ rw f (entries_are terms past standing sessions knows place moment report.key.sid (looked_at (kind.Update report))) ]
entries_is terms past standing sessions knows place moment (kind.Termination report) outcome =
    elim (cases_Bool (refused outcome)) [ inl t ↦ rw t refl | inr f ↦ rw f (entries_are terms past standing sessions knows place moment report.key.sid (looked_at (kind.Termination report))) ]
entries_is terms past standing sessions knows place moment (kind.Event event) outcome = refl
entries_is terms past standing sessions knows place moment kind.Expiry outcome = refl

few_own : (terms : TermsView) (past : List Done) (standing : Standing) (sessions : List SessionView) → Knows terms past standing sessions → (sid : Sid)
    → length (own_in sessions sid) ≤ many_of terms past sid
few_own terms past standing sessions knows sid =
    let own = ap (λ (held : List Held). length held) (own_by terms past standing sessions knows sid) in
    let many = length-map (filter (is_of sid) (lives terms past)) held_of in
    omega arith

-- no more grants are looked at than are live
pub looks_are : (terms : TermsView) (past : List Done) (standing : Standing) (sessions : List SessionView) → Knows terms past standing sessions → (moment : ℕ) (k : Kind)
    → length (held_by_kind sessions k) ≤ most_looks terms past moment k
looks_are terms past standing sessions knows moment (kind.TopUp top_up) = omega arith
looks_are terms past standing sessions knows moment (kind.Event event) = omega arith
looks_are terms past standing sessions knows moment kind.Expiry = omega arith
looks_are terms past standing sessions knows moment (kind.Initial opening limit host) = few_own terms past standing sessions knows opening.key.sid
looks_are terms past standing sessions knows moment (kind.Update report) = few_own terms past standing sessions knows report.key.sid
looks_are terms past standing sessions knows moment (kind.Termination report) = few_own terms past standing sessions knows report.key.sid

all_own : (terms : TermsView) (past : List Done) (standing : Standing) (sessions : List SessionView) → Knows terms past standing sessions → (sid : Sid)
    → many_of terms past sid ≤ length (own_in sessions sid)
all_own terms past standing sessions knows sid =
    let own = ap (λ (held : List Held). length held) (own_by terms past standing sessions knows sid) in
    let many = length-map (filter (is_of sid) (lives terms past)) held_of in
    omega arith

-- and no fewer than are live in its session
pub looks_reach : (terms : TermsView) (past : List Done) (standing : Standing) (sessions : List SessionView) → Knows terms past standing sessions → (k : Kind)
    → least_looks terms past k ≤ length (held_by_kind sessions k)
looks_reach terms past standing sessions knows (kind.TopUp top_up) = omega arith
looks_reach terms past standing sessions knows (kind.Event event) = omega arith
looks_reach terms past standing sessions knows kind.Expiry = omega arith
looks_reach terms past standing sessions knows (kind.Initial opening limit host) = all_own terms past standing sessions knows opening.key.sid
looks_reach terms past standing sessions knows (kind.Update report) = all_own terms past standing sessions knows report.key.sid
looks_reach terms past standing sessions knows (kind.Termination report) = all_own terms past standing sessions knows report.key.sid
