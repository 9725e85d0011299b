-- The facts of outcomes and acts that the crates above use without the definitions themselves.
use Rattle.std.specs.Prelude.{◌≡◌, ℕ, ◌+◌, ◌-◌, ◌≤◌, pos, ◌+ℤ◌, neg_ℤ, ◌≤ℤ◌, Bool, true, false, not, ◌&&◌, ◌||◌, if◌then◌else◌, List, [], ◌∷◌, ◌++◌, length, map, reverse, find, slice_get, bytes_eq, Some, is_some, is_none, option_map, IsSomeAnd, ◌⊎◌}
use Rattle.std.specs.List.{AllByRecursion}
use Rattle.dcc_tariff.specs.Terms.{TermsView}
use Rattle.dcc_tariff.specs.Prices.{covers}
use Rattle.dcc_act.specs.ServiceKeys.{same_service, are_apart}
use Rattle.dcc_act.specs.Services.{ServiceView, service_key}
use Rattle.dcc_act.specs.declared.act.Act.{Act}
use Rattle.dcc_act.specs.declared.act.Kind.{Kind}
use Rattle.dcc_act.specs.declared.act.Kind.TheVariants as kind
use Rattle.dcc_act.specs.declared.limits.TheConstants.{MAX_SESSIONS}
use Rattle.dcc_act.specs.declared.outcome.Outcome.{Outcome}
use Rattle.dcc_act.specs.declared.outcome.ServiceAnswer.{ServiceAnswer}
use Rattle.dcc_act.specs.declared.request_key.RequestKey.{RequestKey}
use Rattle.dcc_act.specs.declared.service_key.ServiceKey.{ServiceKey}
use Rattle.dcc_model.specs.declared.decide.TheConstants.{CEILING}
use Rattle.dcc_model.specs.declared.done.Done.{Done}
use Rattle.dcc_model.specs.Keys.{request_key, ticket, same_key, is_expiry}
use Rattle.dcc_model.specs.Results.{answers_of}
use Rattle.dcc_model.specs.Sessions.{Sid, looked_at, opens, opens_from, was_opened, is_open, open_sessions, live, Live, lives}
use Rattle.dcc_model.specs.Money.{made_price, room, charged}
use Rattle.dcc_model.specs.Outcomes.{decided, judged, is_made, history, after, is_new, place, outcome, acts, funds, overrun, free, kept, was_opened_from, has_top_up, unknown_of, is_unknown, IsOfRequest, IsOfTopUp, IsOfExpiry}
use Rattle.dcc_model.specs.Entries.{entries, sum_of}

-- later acts change no outcome
abbrev pub LaterChangesNothing : Type 0
LaterChangesNothing = (terms : TermsView) (xs ys : List Act) (k : ℕ) → k ≤ length xs
    → outcome terms (xs ++ ys) k ≡ outcome terms xs k

-- the last act has its outcome after the acts before it
abbrev pub LastComesAfter : Type 0
LastComesAfter = (terms : TermsView) (xs : List Act) (act : Act) → outcome terms (xs ++ act ∷ []) (length xs + 1) ≡ Some (after terms xs act)

-- one more act stands behind the others if it is new, and else changes nothing
abbrev pub OneMoreAct : Type 0
OneMoreAct = (terms : TermsView) (xs : List Act) (act : Act)
    → acts terms (xs ++ act ∷ []) ≡ (if is_new terms xs act then acts terms xs ++ act ∷ [] else acts terms xs)

-- leaving out acts that aren't made changes neither the outcome of one more act, nor whether it is new, nor its place
abbrev pub AfterStays : Type 0
AfterStays = (terms : TermsView) (xs : List Act) (act : Act) → after terms (acts terms xs) act ≡ after terms xs act

abbrev pub NewStays : Type 0
NewStays = (terms : TermsView) (xs : List Act) (act : Act) → is_new terms (acts terms xs) act ≡ is_new terms xs act

abbrev pub PlaceStays : Type 0
PlaceStays = (terms : TermsView) (xs : List Act) (act : Act) → place terms (acts terms xs) act ≡ place terms xs act

-- nor the outcomes of later acts
abbrev pub OutcomesStay : Type 0
OutcomesStay = (terms : TermsView) (xs ys : List Act) (k : ℕ) → 1 ≤ k
    → outcome terms (acts terms xs ++ ys) (length (acts terms xs) + k) ≡ outcome terms (xs ++ ys) (length xs + k)

-- nor which acts are made
abbrev pub ActsStay : Type 0
ActsStay = (terms : TermsView) (xs ys : List Act) → acts terms (acts terms xs ++ ys) ≡ acts terms (xs ++ ys)

abbrev pub ActsAreActs : Type 0
ActsAreActs = (terms : TermsView) (xs : List Act) → acts terms (acts terms xs) ≡ acts terms xs

abbrev pub NoActs : Type 0
NoActs = (terms : TermsView) → acts terms [] ≡ []

-- nor the outcomes that are kept
abbrev pub KeptStay : Type 0
KeptStay = (terms : TermsView) (xs : List Act) (key : RequestKey) → kept terms (acts terms xs) key ≡ kept terms xs key

-- nor who opened which session from which host
abbrev pub OpenersStay : Type 0
OpenersStay = (terms : TermsView) (xs : List Act) (host : List ℕ) (sid : Sid) → was_opened_from terms (acts terms xs) host sid ≡ was_opened_from terms xs host sid

-- one more act opens its session from its host if and only if it is new and its outcome opens a session; an opened session stays opened
abbrev pub OneMoreOpens : Type 0
OneMoreOpens = (terms : TermsView) (xs : List Act) (act : Act) (host : List ℕ) (sid : Sid) → was_opened_from terms (xs ++ act ∷ []) host sid
    ≡ ((is_new terms xs act && opens_from (record { act = act; outcome = after terms xs act }) host sid) || was_opened_from terms xs host sid)

-- leaving out acts that aren't made changes neither the funds, nor the overrun, nor the free money, nor the entries
abbrev pub AccountStays : Type 0
AccountStays = (terms : TermsView) (xs : List Act)
    → (funds terms (acts terms xs) ≡ funds terms xs) × (overrun terms (acts terms xs) ≡ overrun terms xs)
    × (free terms (acts terms xs) ≡ free terms xs) × (entries terms (acts terms xs) ≡ entries terms xs)

-- a new act stands behind all others
abbrev pub NewIsLast : Type 0
NewIsLast = (terms : TermsView) (xs : List Act) (act : Act) → is_new terms xs act ≡ true
    → place terms xs act ≡ Some (length (acts terms xs) + 1)

-- at a place of a list, counted from 1, stands the act or an act of the same key, and this is its outcome there
pub record StandsAt (terms : TermsView) (all : List Act) (k : ℕ) (act : Act) (comes_to : Outcome) : Type 0 where
  pub from_one : 1 ≤ k
  pub same : IsSomeAnd (slice_get all (k - 1)) (λ there. (there ≡ act) ⊎ (same_key act.kind there.kind ≡ true))
  pub outcome_is : outcome terms all k ≡ Some comes_to

-- this holds at the place of one more act, among the acts then
abbrev pub PlaceHolds : Type 0
PlaceHolds = (terms : TermsView) (xs : List Act) (act : Act) (k : ℕ) → place terms xs act ≡ Some k
    → StandsAt terms (acts terms (xs ++ act ∷ [])) k act (after terms xs act)

-- only a request of an unknown user and an expiry that ends nothing have no place
abbrev pub UnknownHasNoPlace : Type 0
UnknownHasNoPlace = (terms : TermsView) (xs : List Act) (act : Act) → is_expiry act.kind ≡ false
    → is_none (place terms xs act) ≡ is_unknown (after terms xs act)

abbrev pub IdleExpiryHasNoPlace : Type 0
IdleExpiryHasNoPlace = (terms : TermsView) (xs : List Act) (act : Act) → is_expiry act.kind ≡ true
    → is_none (place terms xs act) ≡ not (is_new terms xs act)

-- without a top-up before, a request is of an unknown user, under its own type and key, and isn't made
abbrev pub UnknownBefore : Type 0
UnknownBefore = (terms : TermsView) (xs : List Act) (act : Act) (unknown : Outcome) → has_top_up xs ≡ false
    → unknown_of act.kind ≡ Some unknown → (after terms xs act ≡ unknown) × (is_new terms xs act ≡ false)

-- the outcome of a made act is that of its decision: no act before it has its key
abbrev pub NewAreDecided : Type 0
NewAreDecided = (terms : TermsView) (xs : List Act) (act : Act) → is_made terms (history terms (reverse xs)) act ≡ true
    → judged terms (history terms (reverse xs)) act ≡ decided terms (history terms (reverse xs)) act.moment act.kind

-- the outcome of a request is one that a request may have
abbrev pub RequestsAreAnswered : Type 0
RequestsAreAnswered = (terms : TermsView) (xs : List Act) (act : Act) → is_some (request_key act.kind) ≡ true → IsOfRequest (after terms xs act)

-- a top-up is added, or passes the ceiling
abbrev pub TopUpsAreAdded : Type 0
TopUpsAreAdded = (terms : TermsView) (xs : List Act) (act : Act) → is_some (ticket act.kind) ≡ true → IsOfTopUp (after terms xs act)

-- an expiry ends some number of sessions
abbrev pub ExpiriesEnd : Type 0
ExpiriesEnd = (terms : TermsView) (xs : List Act) (act : Act) → is_expiry act.kind ≡ true → IsOfExpiry (after terms xs act)

-- the funds stay from -10^18 to 10^18
abbrev pub FundsAreLimited : Type 0
FundsAreLimited = (terms : TermsView) (xs : List Act) → (neg_ℤ CEILING ≤ℤ funds terms xs) × (funds terms xs ≤ℤ CEILING)

-- so the charges of a new act for all its reports are at most 2 * 10^18 together, whatever its services are
abbrev pub ChargesAreBorne : Type 0
ChargesAreBorne = (terms : TermsView) (xs : List Act) (act : Act) → is_new terms xs act ≡ true
    → pos (charged terms (history terms (reverse xs)) (record { act = act; outcome = after terms xs act })) ≤ℤ (CEILING +ℤ CEILING)

-- the services of a session's request
abbrev pub services_of : Kind → List ServiceView
services_of (kind.Initial request limit host) = request.services
services_of (kind.Update request) = request.services
services_of (kind.Termination request) = request.services
services_of _ = []

-- an act's services have keys of their own, as its type keeps them
abbrev pub IsKeyed : Act → Type 0
IsKeyed act = are_apart (map service_key (services_of act.kind)) ≡ true

abbrev pub AreKeyed : List Act → Type 0
AreKeyed xs = AllByRecursion (λ act. IsKeyed act) xs

-- only overrun takes the free money below 0 (O'Neil's escrow method)
abbrev pub FreeIsCovered : Type 0
FreeIsCovered = (terms : TermsView) (xs : List Act) → AreKeyed xs → pos 0 ≤ℤ (free terms xs +ℤ pos (overrun terms xs))

-- each grant's price is 0, or within the room that the grants before it leave
abbrev pub GrantsFit : TermsView → List Done → Sid → List ServiceView → (before : List ServiceAnswer) → List ServiceAnswer → Type 0
GrantsFit terms past sid services before [] = Unit {0}
GrantsFit terms past sid services before (answer ∷ rest) =
    (covers (room terms past sid services before) (made_price answer) ≡ true) × GrantsFit terms past sid services (before ++ answer ∷ []) rest

-- the grants of one more act are covered: each grant to a session by its room, that to a one-time event by the free money; no
-- other act grants
abbrev pub AreCovered : TermsView → List Act → Kind → List ServiceAnswer → Type 0
AreCovered terms xs (kind.TopUp top_up) made = made ≡ []
AreCovered terms xs (kind.Initial request limit host) made = GrantsFit terms (history terms (reverse xs)) request.key.sid (looked_at (kind.Initial request limit host)) [] made
AreCovered terms xs (kind.Update request) made = GrantsFit terms (history terms (reverse xs)) request.key.sid (looked_at (kind.Update request)) [] made
AreCovered terms xs (kind.Termination request) made = GrantsFit terms (history terms (reverse xs)) request.key.sid (looked_at (kind.Termination request)) [] made
AreCovered terms xs (kind.Event event) made = AllByRecursion (λ answer. covers (free terms xs) (made_price answer) ≡ true) made
AreCovered terms xs kind.Expiry made = made ≡ []

-- the grants of each new act are covered; a refusal has no answers
abbrev pub GrantsAreCovered : Type 0
GrantsAreCovered = (terms : TermsView) (xs : List Act) (act : Act) → is_new terms xs act ≡ true
    → AreCovered terms xs act.kind (answers_of (after terms xs act))

-- the entries add up to the funds
abbrev pub EntriesAddUp : Type 0
EntriesAddUp = (terms : TermsView) (xs : List Act) → sum_of (entries terms xs) ≡ funds terms xs

-- a subscriber has at most 1,024 sessions open, whatever limits its acts have
abbrev pub FewAreOpen : Type 0
FewAreOpen = (terms : TermsView) (xs : List Act) → length (open_sessions terms (history terms (reverse xs))) ≤ MAX_SESSIONS

-- a session is opened once: never again, whether it is open or has ended
abbrev pub IsOpenedOnce : List Done → Type 0
IsOpenedOnce [] = Unit {0}
IsOpenedOnce (done ∷ past) =
    ((sid : Sid) → opens done sid ≡ true → was_opened past sid ≡ false) × IsOpenedOnce past

abbrev pub SessionsOpenOnce : Type 0
SessionsOpenOnce = (terms : TermsView) (xs : List Act) → IsOpenedOnce (history terms (reverse xs))

-- each live grant is of an open session
abbrev pub LiveAreOpen : Type 0
LiveAreOpen = (terms : TermsView) (xs : List Act)
    → AllByRecursion (λ (held : Live). is_open terms (history terms (reverse xs)) held.sid ≡ true) (lives terms (history terms (reverse xs)))

-- a live grant of a session and a service
abbrev pub is_at : Sid → ServiceKey → Live → Bool
is_at sid key held = bytes_eq sid held.sid && same_service held.key key

-- a service's live grant, which the last act that named the service made, is the grant for it among all live grants
abbrev pub LiveIsFound : Type 0
LiveIsFound = (terms : TermsView) (xs : List Act) → AreKeyed xs → (sid : Sid) (key : ServiceKey)
    → live terms (history terms (reverse xs)) sid key
    ≡ option_map (λ (held : Live). held.grant) (find (is_at sid key) (lives terms (history terms (reverse xs))))

-- a repeat of a made act has the outcome of that act, of whatever type the repeat is, and whatever acts stand between
abbrev pub RepeatsAreFirsts : Type 0
RepeatsAreFirsts = (terms : TermsView) (xs ys : List Act) (act again : Act) → is_new terms xs act ≡ true → same_key again.kind act.kind ≡ true
    → after terms (xs ++ act ∷ ys) again ≡ after terms xs act

-- a repeat isn't made again
abbrev pub RepeatsAreOld : Type 0
RepeatsAreOld = (terms : TermsView) (xs ys : List Act) (act again : Act) → is_new terms xs act ≡ true → same_key again.kind act.kind ≡ true
    → is_new terms (xs ++ act ∷ ys) again ≡ false
