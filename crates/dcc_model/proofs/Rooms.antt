-- Each grant costs nothing, or is within its room.
use Rattle.std.proofs.Common.{◌≡◌, ℕ, zero, suc, ℤ, Bool, true, not, refl, sym, subst, arith, inl, inr, ◌≢◌, ◌==◌, List, [], ◌∷◌, ◌++◌, length, reverse, Option, Some, None, is_none}
use Rattle.std.specs.Prelude.{nat_le}
use Rattle.std.specs.Option.{option_map_or}
use Rattle.std.proofs.lemmas.Bool.Decides.{nat_tests}
use Rattle.std.proofs.lemmas.Bool.{cases_Bool, cond_both}
use Rattle.dcc_tariff.specs.Terms.{TermsView, TariffView}
use Rattle.dcc_tariff.specs.Prices.{greatest, price, covers, best}
use Rattle.dcc_act.specs.Limits.{most_sessions}
use Rattle.dcc_act.specs.Services.{ServiceView}
use Rattle.dcc_act.specs.declared.act.Act.{Act}
use Rattle.dcc_act.specs.declared.act.Kind.{Kind}
use Rattle.dcc_act.specs.declared.act.Kind.TheVariants as kind
use Rattle.dcc_act.specs.declared.grant.Grant.{Grant}
use Rattle.dcc_act.specs.declared.one_time_event.Action.{Action}
use Rattle.dcc_act.specs.declared.one_time_event.Action.TheVariants.{DirectDebiting, RefundAccount, CheckBalance, PriceEnquiry}
use Rattle.dcc_act.specs.declared.outcome.Outcome.{Outcome}
use Rattle.dcc_act.specs.declared.outcome.Outcome.TheVariants.{Added, Ceiling}
use Rattle.dcc_act.specs.declared.outcome.RequestType.{RequestType}
use Rattle.dcc_act.specs.declared.outcome.RequestType.TheVariants as request
use Rattle.dcc_act.specs.declared.outcome.ServiceAnswer.{ServiceAnswer}
use Rattle.dcc_act.specs.declared.request_key.RequestKey.{RequestKey}
use Rattle.dcc_act.specs.declared.session_limit.SessionLimit.{SessionLimit}
use Rattle.dcc_model.specs.declared.done.Done.{Done}
use Rattle.dcc_model.specs.Results.{answers_of}
use Rattle.dcc_model.specs.Sessions.{Sid, is_open, was_opened, open_sessions, looked_at}
use Rattle.dcc_model.specs.Money.{room, made_price, grant_price, is_unrated, asked_units, charges, funds_of, free_of}
use Rattle.dcc_model.specs.Outcomes.{granted_within, asked_answer, answer_to, answers, begun, reported, is_under, is_over, event_result, decided, history, after, is_new, free}
use Rattle.dcc_model.specs.Laws.{GrantsFit, AreCovered, GrantsAreCovered}
use Rattle.dcc_model.proofs.Histories.{judged_new}

-- the greatest number passes, or is nothing
greatest_passes : (passes : ℕ → Bool) (n : ℕ) → greatest passes n ≢ 0 → passes (greatest passes n) ≡ true
unfolding greatest
greatest_passes passes zero = λ some. absurd (some refl)
greatest_passes passes (suc n) =
    elim (cases_Bool (passes (suc n))) [
      | inl t ↦ rw t (λ some. t)
      | inr f ↦ rw f (greatest_passes passes n)
    ]

best_covered : (tariff : TariffView) (asked : ℕ) (space : ℤ) → best tariff asked space ≢ 0 → covers space (price tariff (best tariff asked space)) ≡ true
unfolding best
best_covered tariff asked space = greatest_passes (λ units. covers space (price tariff units)) asked

within_covered : (service : ServiceView) (asked : Option Grant) (space : ℤ) → covers space (made_price (granted_within service space asked)) ≡ true
within_covered service None space = refl
within_covered service (Some asked) space =
    elim (cases_Bool (best asked.tariff asked.units space == 0)) [
      | inl t ↦ rw t refl
      | inr f ↦ rw f (best_covered asked.tariff asked.units space (λ e. grind (arith, nat_tests)))
    ]

asked_covered : (service : ServiceView) (space : ℤ) → covers space (made_price (asked_answer service space)) ≡ true
asked_covered service space =
    elim (cases_Bool (is_none service.asked)) [
      | inl t ↦ rw t refl
      | inr f ↦ rw f (within_covered service (asked_units service) space)
    ]

-- what a service is granted costs nothing, or at most its room
answer_covered : (terms : TermsView) (past : List Done) (sid : Sid) (service : ServiceView) (space : ℤ) → covers space (made_price (answer_to terms past sid service space)) ≡ true
answer_covered terms past sid service space =
    elim (cases_Bool (is_unrated terms past sid service)) [
      | inl t ↦ rw t refl
      | inr f ↦ rw f (asked_covered service space)
    ]

pub grants_fit : (terms : TermsView) (past : List Done) (sid : Sid) (services : List ServiceView) (before : List ServiceAnswer) (rest : List ServiceView)
    → GrantsFit terms past sid services before (answers terms past sid services before rest)
grants_fit terms past sid services before [] = tt
grants_fit terms past sid services before (service ∷ rest) =
    let space = room terms past sid services before in
    (answer_covered terms past sid service space, grants_fit terms past sid services (before ++ answer_to terms past sid service space ∷ []) rest)

-- of what a request of a session came to, each grant is within its room
abbrev Fits : TermsView → List Done → Sid → List ServiceView → Outcome → Type 0
Fits terms past sid services outcome = GrantsFit terms past sid services [] (answers_of outcome)

begun_fits : (terms : TermsView) (past : List Done) (key : RequestKey) (limit : SessionLimit) (services : List ServiceView) → Fits terms past key.sid services (begun terms past key limit services)
begun_fits terms past key limit services =
    cond_both (was_opened past key.sid) _ _ (Fits terms past key.sid services) (λ _. tt)
    (λ _. cond_both (nat_le (most_sessions limit) (length (open_sessions terms past))) _ _ (Fits terms past key.sid services) (λ _. tt)
    (λ _. grants_fit terms past key.sid services [] services))

reported_fits : (terms : TermsView) (past : List Done) (type : RequestType) (key : RequestKey) (services : List ServiceView) → Fits terms past key.sid services (reported terms past type key services)
reported_fits terms past type key services =
    cond_both (not (is_open terms past key.sid)) _ _ (Fits terms past key.sid services) (λ _. tt)
    (λ _. cond_both (is_under (funds_of terms past) (charges terms past key.sid services)) _ _ (Fits terms past key.sid services) (λ _. tt)
    (λ _. grants_fit terms past key.sid services [] services))

-- a one-time event grants what it debits, or nothing
event_covered : (funds space : ℤ) (action : Action) (asked : Option Grant) → covers space (option_map_or grant_price (event_result funds space action asked).grant 0) ≡ true
event_covered funds space action None = refl
event_covered funds space DirectDebiting (Some grant) =
    elim (cases_Bool (covers space (grant_price grant))) [
      | inl t ↦ rw t t
      | inr f ↦ rw f refl
    ]
event_covered funds space RefundAccount (Some grant) =
    elim (cases_Bool (is_over funds (grant_price grant))) [
      | inl t ↦ rw t refl
      | inr f ↦ rw f refl
    ]
event_covered funds space CheckBalance (Some grant) = refl
event_covered funds space PriceEnquiry (Some grant) = refl

decided_covered : (terms : TermsView) (xs : List Act) (moment : ℕ) (k : Kind) → AreCovered terms xs k (answers_of (decided terms (history terms (reverse xs)) moment k))
unfolding free
decided_covered terms xs moment (kind.TopUp top_up) =
    cond_both (is_over (funds_of terms (history terms (reverse xs))) top_up.amount) Ceiling Added (λ (outcome : Outcome). answers_of outcome ≡ []) (λ _. refl) (λ _. refl)
decided_covered terms xs moment (kind.Initial opening limit host) = begun_fits terms (history terms (reverse xs)) opening.key limit (looked_at (kind.Initial opening limit host))
decided_covered terms xs moment (kind.Update report) = reported_fits terms (history terms (reverse xs)) request.Update report.key (looked_at (kind.Update report))
decided_covered terms xs moment (kind.Termination report) = reported_fits terms (history terms (reverse xs)) request.Termination report.key (looked_at (kind.Termination report))
decided_covered terms xs moment (kind.Event event) =
    let past = history terms (reverse xs) in
    (event_covered (funds_of terms past) (free_of terms past) event.action (asked_units event.service), tt)
decided_covered terms xs moment kind.Expiry = refl

pub grants_are_covered : GrantsAreCovered
unfolding after is_new
grants_are_covered terms xs act new =
    subst (λ (outcome : Outcome). AreCovered terms xs act.kind (answers_of outcome)) (sym (judged_new terms (history terms (reverse xs)) act new)) (decided_covered terms xs act.moment act.kind)
