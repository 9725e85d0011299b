-- What an act comes to, and whether it is made, look at no host.
use Rattle.std.proofs.Common.{◌≡◌, ℕ, ℤ, Bool, true, false, not, ◌&&◌, ◌||◌, cond, List, [], ◌∷◌, ◌++◌, length, count_by, find, Option, Some, None, is_some, is_none, refl, ap, ◌∙◌, option_map}
use Rattle.std.specs.Prelude.{nat_le, nat_lt, unwrap_or}
use Rattle.std.specs.Option.{option_map_or}
use Rattle.dcc_tariff.specs.Terms.{TermsView}
use Rattle.dcc_act.specs.Limits.{most_sessions}
use Rattle.dcc_act.specs.Services.{ServiceView}
use Rattle.dcc_act.specs.declared.act.Act.{Act}
use Rattle.dcc_act.specs.declared.act.Kind.{Kind}
use Rattle.dcc_act.specs.declared.act.Kind.TheVariants as kind
use Rattle.dcc_act.specs.declared.outcome.Outcome.{Outcome}
use Rattle.dcc_act.specs.declared.outcome.Outcome.TheVariants.{Expired}
use Rattle.dcc_act.specs.declared.outcome.RequestType.{RequestType}
use Rattle.dcc_act.specs.declared.outcome.RequestType.TheVariants as request
use Rattle.dcc_act.specs.declared.outcome.ResultCode.TheVariants.{UnknownSession, ResourcesExceeded, UnableToComply, RatingFailed}
use Rattle.dcc_act.specs.declared.outcome.ServiceAnswer.{ServiceAnswer}
use Rattle.dcc_act.specs.declared.request_key.RequestKey.{RequestKey}
use Rattle.dcc_act.specs.declared.session_limit.SessionLimit.{SessionLimit}
use Rattle.dcc_model.specs.declared.done.Done.{Done}
use Rattle.dcc_model.specs.Keys.{request_key, same_key, same_request, is_top_up, is_expiry}
use Rattle.dcc_model.specs.Sessions.{Sid, deadline, is_open, was_opened, open_sessions, looked_at}
use Rattle.dcc_model.specs.Money.{charges, funds_of, free_of, room}
use Rattle.dcc_model.specs.Outcomes.{has_account, first_of, answer_with, asked_answer, answer_to, answers, answered, served, bare, begun, is_under, reported, expired, event_outcome, top_up_outcome, decided, unknown_of, settled, judged, is_made, outcome_of, kept_of}
use Rattle.dcc_hosts.specs.Hosts.{unhosted}
use Rattle.dcc_hosts.proofs.Blind.{blind_kind, blind, done_unhosted, without}
use Rattle.dcc_hosts.proofs.Sessions.{deadline_same, is_open_same, was_opened_same, open_sessions_same}
use Rattle.dcc_hosts.proofs.Money.{charge_same, charges_same, funds_same, free_same, room_same}

has_account_same : (past : List Done) → has_account (without past) ≡ has_account past
has_account_same [] = refl
has_account_same (done ∷ past) =
    blind (λ (d : Done). has_account (d ∷ without past)) (λ moment outcome opening limit host. refl) done
    ∙ ap (λ (before : Bool). is_top_up done.act.kind || before) (has_account_same past)

-- the first that passes a test which is blind to hosts
find_cons : (passes : Bool) (done : Done) (rest : Option Done) (bare_rest : Option Done) → bare_rest ≡ option_map done_unhosted rest
    → cond passes (Some (done_unhosted done)) bare_rest ≡ option_map done_unhosted (cond passes (Some done) rest)
find_cons true done rest bare_rest same = refl
find_cons false done rest bare_rest same = same

find_same : (test : Done → Bool) → ((done : Done) → test (done_unhosted done) ≡ test done) → (past : List Done) → find test (without past) ≡ option_map done_unhosted (find test past)
find_same test is_blind [] = refl
find_same test is_blind (done ∷ past) =
    ap (λ (passes : Bool). cond passes (Some (done_unhosted done)) (find test (without past))) (is_blind done)
    ∙ find_cons (test done) done (find test past) (find test (without past)) (find_same test is_blind past)

first_same : (past : List Done) (k : Kind) → first_of (without past) k ≡ option_map done_unhosted (first_of past k)
first_same past k =
    find_same (λ (done : Done). same_key k done.act.kind)
    (λ done. blind (λ (d : Done). same_key k d.act.kind) (λ moment outcome opening limit host. refl) done) past

outcome_same : (found : Option Done) → option_map outcome_of (option_map done_unhosted found) ≡ option_map outcome_of found
outcome_same None = refl
outcome_same (Some done) = refl

pub kept_same : (past : List Done) (key : RequestKey) → kept_of (without past) key ≡ kept_of past key
kept_same past key =
    ap (λ (found : Option Done). option_map outcome_of found)
    (find_same (λ (done : Done). same_request (Some key) (request_key done.act.kind))
    (λ done. blind (λ (d : Done). same_request (Some key) (request_key d.act.kind)) (λ moment outcome opening limit host. refl) done) past)
    ∙ outcome_same (find (λ (done : Done). same_request (Some key) (request_key done.act.kind)) past)

abbrev unrated_by : (Sid → ServiceView → Option ℕ) → Sid → ServiceView → Bool
unrated_by by sid service = is_some service.used && is_none (by sid service)

abbrev answer_by : (Sid → ServiceView → Option ℕ) → Sid → ServiceView → ℤ → ServiceAnswer
answer_by by sid service space = cond (unrated_by by sid service) (answer_with service RatingFailed None false) (asked_answer service space)

answer_same : (terms : TermsView) (past : List Done) (sid : Sid) (services : List ServiceView) (before : List ServiceAnswer) (service : ServiceView)
    → answer_to terms (without past) sid service (room terms (without past) sid services before) ≡ answer_to terms past sid service (room terms past sid services before)
answer_same terms past sid services before service =
    ap (λ (by : Sid → ServiceView → Option ℕ). answer_by by sid service (room terms (without past) sid services before)) (charge_same terms past)
    ∙ ap (λ (space : Sid → List ServiceView → List ServiceAnswer → ℤ). answer_to terms past sid service (space sid services before)) (room_same terms past)

answers_same : (terms : TermsView) (past : List Done) (sid : Sid) (services : List ServiceView) (before : List ServiceAnswer) (rest : List ServiceView)
    → answers terms (without past) sid services before rest ≡ answers terms past sid services before rest
answers_same terms past sid services before [] = refl
answers_same terms past sid services before (service ∷ rest) =
    let answer = answer_to terms past sid service (room terms past sid services before) in
    ap (λ (first : ServiceAnswer). first ∷ answers terms (without past) sid services (before ++ first ∷ []) rest) (answer_same terms past sid services before service)
    ∙ ap (λ (made : List ServiceAnswer). answer ∷ made) (answers_same terms past sid services (before ++ answer ∷ []) rest)

served_same : (terms : TermsView) (past : List Done) (type : RequestType) (key : RequestKey) (services : List ServiceView) → served terms (without past) type key services ≡ served terms past type key services
served_same terms past type key services = ap (λ (made : List ServiceAnswer). answered type key made) (answers_same terms past key.sid services [] services)

-- the same by parts
abbrev begun_by : Bool → List Sid → Outcome → RequestKey → SessionLimit → Outcome
begun_by was sids found key limit =
    cond was (bare request.Initial key UnableToComply) (cond (nat_le (most_sessions limit) (length sids)) (bare request.Initial key ResourcesExceeded) found)

begun_same : (terms : TermsView) (past : List Done) (key : RequestKey) (limit : SessionLimit) (services : List ServiceView) → begun terms (without past) key limit services ≡ begun terms past key limit services
begun_same terms past key limit services =
    ap (λ (was : Bool). begun_by was (open_sessions terms (without past)) (served terms (without past) request.Initial key services) key limit) (was_opened_same past key.sid)
    ∙ ap (λ (sids : List Sid). begun_by (was_opened past key.sid) sids (served terms (without past) request.Initial key services) key limit) (open_sessions_same terms past)
    ∙ ap (λ (found : Outcome). begun_by (was_opened past key.sid) (open_sessions terms past) found key limit) (served_same terms past request.Initial key services)

abbrev reported_by : (Sid → Bool) → ℤ → (Sid → List ServiceView → ℕ) → Outcome → RequestType → RequestKey → List ServiceView → Outcome
reported_by now funds by found type key services =
    cond (not (now key.sid)) (bare type key UnknownSession) (cond (is_under funds (by key.sid services)) (bare type key UnableToComply) found)

reported_same : (terms : TermsView) (past : List Done) (type : RequestType) (key : RequestKey) (services : List ServiceView) → reported terms (without past) type key services ≡ reported terms past type key services
reported_same terms past type key services =
    let found = served terms (without past) type key services in
    ap (λ (now : Sid → Bool). reported_by now (funds_of terms (without past)) (charges terms (without past)) found type key services) (is_open_same terms past)
    ∙ ap (λ (funds : ℤ). reported_by (is_open terms past) funds (charges terms (without past)) found type key services) (funds_same terms past)
    ∙ ap (λ (by : Sid → List ServiceView → ℕ). reported_by (is_open terms past) (funds_of terms past) by found type key services) (charges_same terms past)
    ∙ ap (λ (o : Outcome). reported_by (is_open terms past) (funds_of terms past) (charges terms past) o type key services) (served_same terms past type key services)

expired_same : (terms : TermsView) (past : List Done) (moment : ℕ) → expired terms (without past) moment ≡ expired terms past moment
expired_same terms past moment =
    ap (λ (until : Sid → ℕ). count_by (λ (sid : Sid). nat_le (until sid) moment) (open_sessions terms (without past))) (deadline_same terms past)
    ∙ ap (λ (sids : List Sid). count_by (λ (sid : Sid). nat_le (deadline terms past sid) moment) sids) (open_sessions_same terms past)

decided_same : (terms : TermsView) (past : List Done) (moment : ℕ) (k : Kind) → decided terms (without past) moment k ≡ decided terms past moment k
decided_same terms past moment (kind.TopUp top_up) = ap (λ (funds : ℤ). top_up_outcome funds top_up) (funds_same terms past)
decided_same terms past moment (kind.Initial opening limit host) = begun_same terms past opening.key limit (looked_at (kind.Initial opening limit host))
decided_same terms past moment (kind.Update report) = reported_same terms past request.Update report.key (looked_at (kind.Update report))
decided_same terms past moment (kind.Termination report) = reported_same terms past request.Termination report.key (looked_at (kind.Termination report))
decided_same terms past moment (kind.Event event) =
    ap (λ (funds : ℤ). event_outcome funds (free_of terms (without past)) event) (funds_same terms past)
    ∙ ap (λ (free : ℤ). event_outcome (funds_of terms past) free event) (free_same terms past)
decided_same terms past moment kind.Expiry = ap (λ (sessions : ℕ). Expired sessions) (expired_same terms past moment)

found_same : (found : Option Done) (rest : Outcome)
    → option_map_or (λ (done : Done). done.outcome) (option_map done_unhosted found) rest ≡ option_map_or (λ (done : Done). done.outcome) found rest
found_same None rest = refl
found_same (Some done) rest = refl

settled_same : (terms : TermsView) (past : List Done) (act : Act) → settled terms (without past) act ≡ settled terms past act
settled_same terms past act =
    ap (λ (found : Option Done). option_map_or (λ (done : Done). done.outcome) found (decided terms (without past) act.moment act.kind)) (first_same past act.kind)
    ∙ found_same (first_of past act.kind) (decided terms (without past) act.moment act.kind)
    ∙ ap (λ (rest : Outcome). option_map_or (λ (done : Done). done.outcome) (first_of past act.kind) rest) (decided_same terms past act.moment act.kind)

abbrev judged_by : Bool → Act → Outcome → Outcome
judged_by account act found = cond account found (unwrap_or (unknown_of act.kind) found)

-- what an act comes to, without its host after acts without theirs
pub judged_same : (terms : TermsView) (past : List Done) (act : Act) → judged terms (without past) (unhosted act) ≡ judged terms past act
judged_same terms past act =
    blind_kind (λ (k : Kind). judged terms (without past) (record { moment = act.moment; kind = k })) (λ opening limit host. refl) act.kind
    ∙ ap (λ (account : Bool). judged_by account act (settled terms (without past) act)) (has_account_same past)
    ∙ ap (λ (found : Outcome). judged_by (has_account past) act found) (settled_same terms past act)

none_same : (found : Option Done) → is_none (option_map done_unhosted found) ≡ is_none found
none_same None = refl
none_same (Some done) = refl

abbrev made_by_parts : Act → ℕ → Bool → Bool → Bool
made_by_parts act ended account is_first = cond (is_expiry act.kind) (nat_lt 0 ended) ((account || is_none (request_key act.kind)) && is_first)

-- and whether it is made
pub is_made_same : (terms : TermsView) (past : List Done) (act : Act) → is_made terms (without past) (unhosted act) ≡ is_made terms past act
is_made_same terms past act =
    blind_kind (λ (k : Kind). is_made terms (without past) (record { moment = act.moment; kind = k })) (λ opening limit host. refl) act.kind
    ∙ ap (λ (n : ℕ). made_by_parts act n (has_account (without past)) (is_none (first_of (without past) act.kind))) (expired_same terms past act.moment)
    ∙ ap (λ (account : Bool). made_by_parts act (expired terms past act.moment) account (is_none (first_of (without past) act.kind))) (has_account_same past)
    ∙ ap (λ (is_first : Bool). made_by_parts act (expired terms past act.moment) (has_account past) is_first)
    (ap (λ (found : Option Done). is_none found) (first_same past act.kind) ∙ none_same (first_of past act.kind))
