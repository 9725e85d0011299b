-- The escrow law: only what is overrun takes what is free below nothing.
use Rattle.std.proofs.Common.{◌≡◌, ℕ, ℤ, pos, ◌≤ℤ◌, true, false, not, cond, List, [], ◌∷◌, ◌++◌, map, reverse, refl, sym, ap, subst, ◌∙◌, arith, inl, inr, ◌⊎◌, Option, Some, None}
use Rattle.std.specs.List.{list_any, AllByRecursion}
use Rattle.std.specs.Option.{option_map_or}
use Rattle.std.proofs.lemmas.Bool.{cases_Bool, and_from, not_from_false, or_parts}
use Rattle.std.proofs.lemmas.Int.{ints}
use Rattle.std.proofs.lemmas.List.{reverse-append}
use Rattle.dcc_tariff.specs.Prices.{covers}
use Rattle.dcc_tariff.specs.Terms.{TermsView}
use Rattle.dcc_act.specs.ServiceKeys.{same_service, are_apart}
use Rattle.dcc_act.specs.Services.{ServiceView, service_key}
use Rattle.dcc_act.specs.declared.act.Act.{Act}
use Rattle.dcc_act.specs.declared.act.Kind.{Kind}
use Rattle.dcc_act.specs.declared.act.Kind.TheVariants as kind
use Rattle.dcc_act.specs.declared.grant.Grant.{Grant}
use Rattle.dcc_act.specs.declared.one_time_event.Action.{Action}
use Rattle.dcc_act.specs.declared.one_time_event.Action.TheVariants.{DirectDebiting, RefundAccount, CheckBalance, PriceEnquiry}
use Rattle.dcc_act.specs.declared.outcome.Outcome.{Outcome}
use Rattle.dcc_act.specs.declared.outcome.RequestType.{RequestType}
use Rattle.dcc_act.specs.declared.request_key.RequestKey.{RequestKey}
use Rattle.dcc_act.specs.declared.service_key.ServiceKey.{ServiceKey}
use Rattle.dcc_act.specs.declared.session_limit.SessionLimit.{SessionLimit}
use Rattle.dcc_act.specs.declared.session_request.SessionRequest.{SessionRequest}
use Rattle.dcc_model.specs.declared.done.Done.{Done}
use Rattle.dcc_model.specs.Results.{succeeded, refused, is_success, answers_of}
use Rattle.dcc_model.specs.Sessions.{named, is_named, looked_at, without_report, without_asked}
use Rattle.dcc_model.specs.Money.{asked_units, charged_by, grant_price, funds_of, free_of}
use Rattle.dcc_model.specs.Outcomes.{answers, begun, reported, is_over, event_result, decided, is_made, history, free, overrun}
use Rattle.dcc_model.specs.Laws.{services_of, AreKeyed, FreeIsCovered}
use Rattle.dcc_model.proofs.Histories.{judged_new}
use Rattle.dcc_model.proofs.Served.{begun_cases, reported_cases}
use Rattle.dcc_model.proofs.Funds.{covers_parts, done_as}
use Rattle.dcc_model.proofs.Escrow.{apart_parts, Holds, idle_step, open_step, report_step}

-- what an event of this kind charges that came to this result
abbrev taken : ℤ → ℤ → Action → Option Grant → ℕ
taken funds space action asked = option_map_or grant_price (cond (is_success (event_result funds space action asked).result) (charged_by action asked) None) 0

-- a direct debit takes nothing, or at most what is free
debit_free : (funds space : ℤ) (action : Action) (asked : Option Grant) → (taken funds space action asked ≡ 0) ⊎ (pos (taken funds space action asked) ≤ℤ space)
debit_free funds space action None = inl refl
debit_free funds space DirectDebiting (Some grant) =
    elim (cases_Bool (covers space (grant_price grant))) [
      | inl t ↦ rw t (covers_parts space (grant_price grant) t)
      | inr f ↦ rw f (inl refl)
    ]
debit_free funds space RefundAccount (Some grant) =
    elim (cases_Bool (is_over funds (grant_price grant))) [
      | inl t ↦ rw t (inl refl)
      | inr f ↦ rw f (inl refl)
    ]
debit_free funds space CheckBalance (Some grant) = inl refl
debit_free funds space PriceEnquiry (Some grant) = inl refl

-- an initial request is served, or doesn't succeed
pub begun_served : (terms : TermsView) (past : List Done) (key : RequestKey) (limit : SessionLimit) (services : List ServiceView)
    → (answers_of (begun terms past key limit services) ≡ answers terms past key.sid services [] services) ⊎ (succeeded (begun terms past key limit services) ≡ false)
begun_served terms past key limit services = elim (begun_cases terms past key limit services) [ inl opening ↦ inl (ap answers_of opening.0) | inr f ↦ inr f ]

-- a report is served, or refused as a whole
pub reported_served : (terms : TermsView) (past : List Done) (type : RequestType) (key : RequestKey) (services : List ServiceView)
    → (answers_of (reported terms past type key services) ≡ answers terms past key.sid services [] services) ⊎ (refused (reported terms past type key services) ≡ true)
reported_served terms past type key services = elim (reported_cases terms past type key services) [ inl report ↦ inl (ap answers_of report.0) | inr t ↦ inr t ]

initial_step : (terms : TermsView) (past : List Done) (moment : ℕ) (opening : SessionRequest) (limit : SessionLimit) (host : Option (List ℕ)) (outcome : Outcome)
    → (answers_of outcome ≡ answers terms past opening.key.sid (looked_at (kind.Initial opening limit host)) [] (looked_at (kind.Initial opening limit host))) ⊎ (succeeded outcome ≡ false)
    → Holds terms past → Holds terms (done_as moment (kind.Initial opening limit host) outcome ∷ past)
initial_step terms past moment opening limit host outcome (inr f) old = idle_step terms past (done_as moment (kind.Initial opening limit host) outcome) (rw f refl) refl (inl refl) old
initial_step terms past moment opening limit host outcome (inl are) old =
    elim (cases_Bool (succeeded outcome)) [
      | inl t ↦ open_step terms past (done_as moment (kind.Initial opening limit host) outcome) opening.key.sid (rw t refl) refl are refl old
      | inr f ↦ idle_step terms past (done_as moment (kind.Initial opening limit host) outcome) (rw f refl) refl (inl refl) old
    ]

update_step : (terms : TermsView) (past : List Done) (moment : ℕ) (report : SessionRequest) (outcome : Outcome)
    → (answers_of outcome ≡ answers terms past report.key.sid (looked_at (kind.Update report)) [] (looked_at (kind.Update report))) ⊎ (refused outcome ≡ true)
    → are_apart (named (looked_at (kind.Update report))) ≡ true → Holds terms past → Holds terms (done_as moment (kind.Update report) outcome ∷ past)
update_step terms past moment report outcome (inr t) apart old = idle_step terms past (done_as moment (kind.Update report) outcome) (rw t refl) (rw t refl) (inl refl) old
update_step terms past moment report outcome (inl are) apart old =
    elim (cases_Bool (refused outcome)) [
      | inl t ↦ idle_step terms past (done_as moment (kind.Update report) outcome) (rw t refl) (rw t refl) (inl refl) old
      | inr f ↦ report_step terms past (done_as moment (kind.Update report) outcome) report.key.sid (rw f refl) (rw f refl) are refl apart old
    ]

termination_step : (terms : TermsView) (past : List Done) (moment : ℕ) (report : SessionRequest) (outcome : Outcome)
    → (answers_of outcome ≡ answers terms past report.key.sid (looked_at (kind.Termination report)) [] (looked_at (kind.Termination report))) ⊎ (refused outcome ≡ true)
    → are_apart (named (looked_at (kind.Termination report))) ≡ true → Holds terms past → Holds terms (done_as moment (kind.Termination report) outcome ∷ past)
termination_step terms past moment report outcome (inr t) apart old = idle_step terms past (done_as moment (kind.Termination report) outcome) (rw t refl) (rw t refl) (inl refl) old
termination_step terms past moment report outcome (inl are) apart old =
    elim (cases_Bool (refused outcome)) [
      | inl t ↦ idle_step terms past (done_as moment (kind.Termination report) outcome) (rw t refl) (rw t refl) (inl refl) old
      | inr f ↦ report_step terms past (done_as moment (kind.Termination report) outcome) report.key.sid (rw f refl) (rw f refl) are refl apart old
    ]

step : (terms : TermsView) (past : List Done) (moment : ℕ) (k : Kind) → are_apart (named (looked_at k)) ≡ true → Holds terms past → Holds terms (done_as moment k (decided terms past moment k) ∷ past)
step terms past moment (kind.TopUp top_up) apart old = idle_step terms past (done_as moment (kind.TopUp top_up) (decided terms past moment (kind.TopUp top_up))) refl refl (inl refl) old
step terms past moment (kind.Initial opening limit host) apart old =
    initial_step terms past moment opening limit host (decided terms past moment (kind.Initial opening limit host)) (begun_served terms past opening.key limit (looked_at (kind.Initial opening limit host))) old
step terms past moment (kind.Update report) apart old =
    update_step terms past moment report (decided terms past moment (kind.Update report)) (reported_served terms past _ report.key (looked_at (kind.Update report))) apart old
step terms past moment (kind.Termination report) apart old =
    termination_step terms past moment report (decided terms past moment (kind.Termination report)) (reported_served terms past _ report.key (looked_at (kind.Termination report))) apart old
step terms past moment (kind.Event event) apart old =
    idle_step terms past (done_as moment (kind.Event event) (decided terms past moment (kind.Event event))) refl refl
    (debit_free (funds_of terms past) (free_of terms past) event.action (asked_units event.service)) old
step terms past moment kind.Expiry apart old = idle_step terms past (done_as moment kind.Expiry (decided terms past moment kind.Expiry)) refl refl (inl refl) old

-- keys that are apart stay so where a request looks at some of their services
apart_named_from : (key : ServiceKey) (services : List ServiceView) → list_any (same_service key) (map service_key services) ≡ false → list_any (same_service key) (named services) ≡ false
apart_named_from key [] h = refl
apart_named_from key (service ∷ services) h =
    let p = or_parts (same_service key (service_key service)) (list_any (same_service key) (map service_key services)) h in
    let rest = apart_named_from key services p.1 in
    elim (cases_Bool (is_named service)) [
      | inl t ↦ rw (t, p.0) rest
      | inr f ↦ rw f rest
    ]

pub apart_named : (services : List ServiceView) → are_apart (map service_key services) ≡ true → are_apart (named services) ≡ true
apart_named [] apart = refl
apart_named (service ∷ services) apart =
    let parts = apart_parts (service_key service) (map service_key services) apart in
    elim (cases_Bool (is_named service)) [
      | inl t ↦
          let keys : named (service ∷ services) ≡ service_key service ∷ named services = rw t refl in
          ap are_apart keys
          ∙ and_from (not (list_any (same_service (service_key service)) (named services))) (are_apart (named services))
          (not_from_false (list_any (same_service (service_key service)) (named services)) (apart_named_from (service_key service) services parts.0))
          (apart_named services parts.1)
      | inr f ↦ let keys : named (service ∷ services) ≡ named services = rw f refl in ap are_apart keys ∙ apart_named services parts.1
    ]

keys_without_report : (services : List ServiceView) → map service_key (map without_report services) ≡ map service_key services
keys_without_report [] = refl
keys_without_report (service ∷ services) = ap (λ (keys : List ServiceKey). service_key service ∷ keys) (keys_without_report services)

keys_without_asked : (services : List ServiceView) → map service_key (map without_asked services) ≡ map service_key services
keys_without_asked [] = refl
keys_without_asked (service ∷ services) = ap (λ (keys : List ServiceKey). service_key service ∷ keys) (keys_without_asked services)

-- a request looks at its services under their keys
pub keys_looked_at : (k : Kind) → map service_key (looked_at k) ≡ map service_key (services_of k)
keys_looked_at (kind.TopUp top_up) = refl
keys_looked_at (kind.Initial opening limit host) = keys_without_report opening.services
keys_looked_at (kind.Update report) = refl
keys_looked_at (kind.Termination report) = keys_without_asked report.services
keys_looked_at (kind.Event event) = refl
keys_looked_at kind.Expiry = refl

pub apart_looked_at : (k : Kind) → are_apart (map service_key (services_of k)) ≡ true → are_apart (named (looked_at k)) ≡ true
apart_looked_at k apart = apart_named (looked_at k) (ap are_apart (keys_looked_at k) ∙ apart)

holds_after : (terms : TermsView) (all : List Act) → AreKeyed all → Holds terms (history terms all)
holds_after terms [] keyed = record { bound = omega (arith, ints) }
holds_after terms (act ∷ all) keyed =
    let past = history terms all in
    let old = holds_after terms all keyed.1 in
    elim (cases_Bool (is_made terms past act)) [
      | inl t ↦ rw t (
          let is = judged_new terms past act t in
          subst (λ (outcome : Outcome). Holds terms (record { act = act; outcome = outcome } ∷ past)) (sym is)
          (step terms past act.moment act.kind (apart_looked_at act.kind keyed.0) old))
      | inr f ↦ rw f old
    ]

all_push : {X : Type 0} (P : X → Type 0) (xs : List X) (x : X) → AllByRecursion P xs → P x → AllByRecursion P (xs ++ x ∷ [])
all_push P [] x all one = (one, tt)
all_push P (y ∷ xs) x all one = (all.0, all_push P xs x all.1 one)

-- what holds of all holds of them in the other order
pub all_reverse : {X : Type 0} (P : X → Type 0) (xs : List X) → AllByRecursion P xs → AllByRecursion P (reverse xs)
all_reverse P [] all = tt
all_reverse P (x ∷ xs) all = rw (reverse-append (x ∷ []) xs) (all_push P (reverse xs) x (all_reverse P xs all.1) all.0)

pub free_is_covered : FreeIsCovered
unfolding free overrun
free_is_covered terms xs keyed =
    let law = holds_after terms (reverse xs) (all_reverse (λ (act : Act). are_apart (map service_key (services_of act.kind)) ≡ true) xs keyed) in
    let bound = law.bound in
    omega (arith, ints)
