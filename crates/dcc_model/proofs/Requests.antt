-- Requests have the outcomes of requests, and top-ups those of top-ups; without a top-up no request acts.
use Rattle.std.proofs.Common.{◌≡◌, ℕ, ℤ, pos, ◌+ℤ◌, not, length, Bool, true, false, ◌||◌, List, [], ◌∷◌, ◌++◌, reverse, refl, ap, ◌∙◌, inl, inr, Some, is_none}
use Rattle.std.specs.Prelude.{int_lt, nat_le, unwrap_or}
use Rattle.std.specs.Option.{option_map_or}
use Rattle.std.proofs.lemmas.Bool.{cases_Bool, cond_both, or_parts, or_from}
use Rattle.std.proofs.lemmas.List.{reverse-append}
use Rattle.std.proofs.lemmas.List.Folds.{list_any-append}
use Rattle.dcc_tariff.specs.Terms.{TermsView}
use Rattle.dcc_act.specs.Limits.{most_sessions}
use Rattle.dcc_act.specs.declared.act.Act.{Act}
use Rattle.dcc_act.specs.declared.act.Kind.{Kind}
use Rattle.dcc_act.specs.declared.act.Kind.TheVariants as kind
use Rattle.dcc_act.specs.declared.top_up.TopUp.{TopUp}
use Rattle.dcc_act.specs.declared.outcome.Outcome.{Outcome}
use Rattle.dcc_act.specs.declared.outcome.Outcome.TheVariants.{Added, Ceiling}
use Rattle.dcc_act.specs.declared.outcome.RequestType.{RequestType}
use Rattle.dcc_act.specs.declared.outcome.RequestType.TheVariants as request
use Rattle.dcc_act.specs.declared.request_key.RequestKey.{RequestKey}
use Rattle.dcc_act.specs.Services.{ServiceView}
use Rattle.dcc_act.specs.declared.session_limit.SessionLimit.{SessionLimit}
use Rattle.dcc_model.specs.declared.done.Done.{Done}
use Rattle.dcc_model.specs.declared.decide.TheConstants.{CEILING}
use Rattle.dcc_model.specs.Keys.{request_key, same_key, is_top_up, is_expiry}
use Rattle.dcc_model.specs.Sessions.{is_open, was_opened, open_sessions, looked_at}
use Rattle.dcc_model.specs.Money.{charges, funds_of}
use Rattle.dcc_model.specs.Outcomes.{begun, reported, is_under, has_account, has_top_up, counts, first_of, is_made, top_up_outcome, decided, unknown_of, settled, judged, history, after, is_new, IsOfRequest, IsOfTopUp, IsOfExpiry}

abbrev pub IsOf : Kind → Outcome → Type 0
IsOf (kind.TopUp top_up) outcome = IsOfTopUp outcome
IsOf (kind.Initial opening limit host) outcome = IsOfRequest outcome
IsOf (kind.Update report) outcome = IsOfRequest outcome
IsOf (kind.Termination report) outcome = IsOfRequest outcome
IsOf (kind.Event event) outcome = IsOfRequest outcome
IsOf kind.Expiry outcome = IsOfExpiry outcome

top_up_of_top_up : (funds : ℤ) (top_up : TopUp) → IsOfTopUp (top_up_outcome funds top_up)
top_up_of_top_up funds top_up = cond_both (int_lt CEILING (funds +ℤ pos top_up.amount)) Ceiling Added IsOfTopUp (λ _. tt) (λ _. tt)

begun_is_of : (terms : TermsView) (past : List Done) (key : RequestKey) (limit : SessionLimit) (services : List ServiceView) → IsOfRequest (begun terms past key limit services)
begun_is_of terms past key limit services =
    cond_both (was_opened past key.sid) _ _ IsOfRequest (λ _. tt)
    (λ _. cond_both (nat_le (most_sessions limit) (length (open_sessions terms past))) _ _ IsOfRequest (λ _. tt) (λ _. tt))

reported_is_of : (terms : TermsView) (past : List Done) (type : RequestType) (key : RequestKey) (services : List ServiceView) → IsOfRequest (reported terms past type key services)
reported_is_of terms past type key services =
    cond_both (not (is_open terms past key.sid)) _ _ IsOfRequest (λ _. tt)
    (λ _. cond_both (is_under (funds_of terms past) (charges terms past key.sid services)) _ _ IsOfRequest (λ _. tt) (λ _. tt))

decided_is_of : (terms : TermsView) (past : List Done) (moment : ℕ) (k : Kind) → IsOf k (decided terms past moment k)
decided_is_of terms past moment (kind.TopUp top_up) = top_up_of_top_up (funds_of terms past) top_up
decided_is_of terms past moment (kind.Initial opening limit host) = begun_is_of terms past opening.key limit (looked_at (kind.Initial opening limit host))
decided_is_of terms past moment (kind.Update report) = reported_is_of terms past request.Update report.key (looked_at (kind.Update report))
decided_is_of terms past moment (kind.Termination report) = reported_is_of terms past request.Termination report.key (looked_at (kind.Termination report))
decided_is_of terms past moment (kind.Event event) = tt
decided_is_of terms past moment kind.Expiry = tt

-- one key, one kind
same_kind : (a b : Kind) (outcome : Outcome) → same_key a b ≡ true → IsOf b outcome → IsOf a outcome
same_kind (kind.TopUp a) (kind.TopUp b) outcome same is = is
same_kind (kind.TopUp a) (kind.Initial b lb hb) outcome same is = absurd cc
same_kind (kind.TopUp a) (kind.Update b) outcome same is = absurd cc
same_kind (kind.TopUp a) (kind.Termination b) outcome same is = absurd cc
same_kind (kind.TopUp a) (kind.Event b) outcome same is = absurd cc
same_kind (kind.TopUp a) kind.Expiry outcome same is = absurd cc
same_kind (kind.Initial a la ha) (kind.TopUp b) outcome same is = absurd cc
same_kind (kind.Initial a la ha) (kind.Initial b lb hb) outcome same is = is
same_kind (kind.Initial a la ha) (kind.Update b) outcome same is = is
same_kind (kind.Initial a la ha) (kind.Termination b) outcome same is = is
same_kind (kind.Initial a la ha) (kind.Event b) outcome same is = is
same_kind (kind.Initial a la ha) kind.Expiry outcome same is = absurd cc
same_kind (kind.Update a) (kind.TopUp b) outcome same is = absurd cc
same_kind (kind.Update a) (kind.Initial b lb hb) outcome same is = is
same_kind (kind.Update a) (kind.Update b) outcome same is = is
same_kind (kind.Update a) (kind.Termination b) outcome same is = is
same_kind (kind.Update a) (kind.Event b) outcome same is = is
same_kind (kind.Update a) kind.Expiry outcome same is = absurd cc
same_kind (kind.Termination a) (kind.TopUp b) outcome same is = absurd cc
same_kind (kind.Termination a) (kind.Initial b lb hb) outcome same is = is
same_kind (kind.Termination a) (kind.Update b) outcome same is = is
same_kind (kind.Termination a) (kind.Termination b) outcome same is = is
same_kind (kind.Termination a) (kind.Event b) outcome same is = is
same_kind (kind.Termination a) kind.Expiry outcome same is = absurd cc
same_kind (kind.Event a) (kind.TopUp b) outcome same is = absurd cc
same_kind (kind.Event a) (kind.Initial b lb hb) outcome same is = is
same_kind (kind.Event a) (kind.Update b) outcome same is = is
same_kind (kind.Event a) (kind.Termination b) outcome same is = is
same_kind (kind.Event a) (kind.Event b) outcome same is = is
same_kind (kind.Event a) kind.Expiry outcome same is = absurd cc
same_kind kind.Expiry (kind.TopUp b) outcome same is = absurd cc
same_kind kind.Expiry (kind.Initial b lb hb) outcome same is = absurd cc
same_kind kind.Expiry (kind.Update b) outcome same is = absurd cc
same_kind kind.Expiry (kind.Termination b) outcome same is = absurd cc
same_kind kind.Expiry (kind.Event b) outcome same is = absurd cc
same_kind kind.Expiry kind.Expiry outcome same is = absurd cc

AllOf : List Done → Type 0
AllOf [] = Unit {0}
AllOf (done ∷ past) = IsOf done.act.kind done.outcome × AllOf past

first_is_of : (past : List Done) (k : Kind) (rest : Outcome) → AllOf past → IsOf k rest → IsOf k (option_map_or (λ (done : Done). done.outcome) (first_of past k) rest)
unfolding AllOf
first_is_of [] k rest all is = is
first_is_of (done ∷ past) k rest all is =
    elim (cases_Bool (same_key k done.act.kind)) [
      | inl t ↦ rw t (same_kind k done.act.kind done.outcome t all.0)
      | inr f ↦ rw f (first_is_of past k rest all.1 is)
    ]

unknown_is_of : (k : Kind) (rest : Outcome) → IsOf k rest → IsOf k (unwrap_or (unknown_of k) rest)
unknown_is_of (kind.TopUp top_up) rest is = is
unknown_is_of (kind.Initial opening limit host) rest is = tt
unknown_is_of (kind.Update report) rest is = tt
unknown_is_of (kind.Termination report) rest is = tt
unknown_is_of (kind.Event event) rest is = tt
unknown_is_of kind.Expiry rest is = is

judged_is_of : (terms : TermsView) (past : List Done) (act : Act) → AllOf past → IsOf act.kind (judged terms past act)
judged_is_of terms past act all =
    let is = first_is_of past act.kind (decided terms past act.moment act.kind) all (decided_is_of terms past act.moment act.kind) in
    elim (cases_Bool (has_account past)) [
      | inl t ↦ rw t is
      | inr f ↦ rw f (unknown_is_of act.kind (settled terms past act) is)
    ]

history_all_of : (terms : TermsView) (all : List Act) → AllOf (history terms all)
unfolding AllOf
history_all_of terms [] = tt
history_all_of terms (act ∷ earlier) =
    let before = history_all_of terms earlier in
    elim (cases_Bool (is_made terms (history terms earlier) act)) [
      | inl t ↦ rw t (judged_is_of terms (history terms earlier) act before, before)
      | inr f ↦ rw f before
    ]

pub after_is_of : (terms : TermsView) (xs : List Act) (act : Act) → IsOf act.kind (after terms xs act)
unfolding after
after_is_of terms xs act = judged_is_of terms (history terms (reverse xs)) act (history_all_of terms (reverse xs))

-- an account is there from the first top-up of the list
no_account : (terms : TermsView) (all : List Act) → has_top_up all ≡ false → has_account (history terms all) ≡ false
no_account terms [] h = refl
no_account terms (act ∷ earlier) h =
    let parts = or_parts (is_top_up act.kind) (has_top_up earlier) h in
    let before = no_account terms earlier parts.1 in
    elim (cases_Bool (is_made terms (history terms earlier) act)) [
      | inl t ↦ rw (t, parts.0) before
      | inr f ↦ rw f before
    ]

has_top_up-reverse : (all : List Act) → has_top_up all ≡ false → has_top_up (reverse all) ≡ false
has_top_up-reverse [] h = refl
has_top_up-reverse (act ∷ all) h =
    let parts = or_parts (is_top_up act.kind) (has_top_up all) h in
    let turned : reverse (act ∷ all) ≡ reverse all ++ act ∷ [] = reverse-append (act ∷ []) all in
    let test : Act → Bool = λ act. is_top_up act.kind in
    ap has_top_up turned ∙ list_any-append test (reverse all) (act ∷ []) ∙ or_from (has_top_up (reverse all)) (is_top_up act.kind || false) (has_top_up-reverse all parts.1) (or_from (is_top_up act.kind) false parts.0 refl)

-- what may be of an unknown user is a request
unknown_requests : (k : Kind) (unknown : Outcome) → unknown_of k ≡ Some unknown → is_none (request_key k) ≡ false
unknown_requests (kind.TopUp top_up) unknown h = absurd cc
unknown_requests (kind.Initial opening limit host) unknown h = refl
unknown_requests (kind.Update report) unknown h = refl
unknown_requests (kind.Termination report) unknown h = refl
unknown_requests (kind.Event event) unknown h = refl
unknown_requests kind.Expiry unknown h = absurd cc

unknown_no_expiry : (k : Kind) (unknown : Outcome) → unknown_of k ≡ Some unknown → is_expiry k ≡ false
unknown_no_expiry (kind.TopUp top_up) unknown h = refl
unknown_no_expiry (kind.Initial opening limit host) unknown h = refl
unknown_no_expiry (kind.Update report) unknown h = refl
unknown_no_expiry (kind.Termination report) unknown h = refl
unknown_no_expiry (kind.Event event) unknown h = refl
unknown_no_expiry kind.Expiry unknown h = absurd cc

no_account_of : (terms : TermsView) (xs : List Act) → has_top_up xs ≡ false → has_account (history terms (reverse xs)) ≡ false
no_account_of terms xs none = no_account terms (reverse xs) (has_top_up-reverse xs none)

-- without a top-up before, a request is of an unknown user, and isn't made
pub after_no_top_up : (terms : TermsView) (xs : List Act) (act : Act) (unknown : Outcome) → has_top_up xs ≡ false → unknown_of act.kind ≡ Some unknown → after terms xs act ≡ unknown
unfolding after
after_no_top_up terms xs act unknown none is = let no_one = no_account_of terms xs none in rw (no_one, is) refl

pub old_no_top_up : (terms : TermsView) (xs : List Act) (act : Act) (unknown : Outcome) → has_top_up xs ≡ false → unknown_of act.kind ≡ Some unknown → is_new terms xs act ≡ false
unfolding is_new
old_no_top_up terms xs act unknown none is =
    let uncounted : counts (history terms (reverse xs)) act.kind ≡ false =
    or_from (has_account (history terms (reverse xs))) (is_none (request_key act.kind)) (no_account_of terms xs none) (unknown_requests act.kind unknown is) in
    rw (unknown_no_expiry act.kind unknown is, uncounted) refl
