-- The laws of outcomes and acts.
use Rattle.std.proofs.Common.{◌≡◌, ℕ, ◌+◌, ◌-◌, true, ◌&&◌, ◌||◌, inl, inr, List, [], ◌∷◌, ◌++◌, length, take, reverse, refl, sym, ap, ◌∙◌, arith, Option, Some, None, is_some, option_map}
use Rattle.std.specs.Prelude.{slice_get}
use Rattle.std.proofs.lemmas.List.{reverse-append}
use Rattle.std.proofs.lemmas.Bool.{cases_Bool}
use Rattle.dcc_tariff.specs.Terms.{TermsView}
use Rattle.dcc_act.specs.declared.act.Act.{Act}
use Rattle.dcc_act.specs.declared.act.Kind.{Kind}
use Rattle.dcc_act.specs.declared.act.Kind.TheVariants as kind
use Rattle.dcc_act.specs.declared.outcome.Outcome.{Outcome}
use Rattle.dcc_model.specs.declared.done.Done.{Done}
use Rattle.dcc_model.specs.Keys.{request_key, ticket, is_expiry}
use Rattle.dcc_model.specs.Money.{funds_of, overrun_of, free_of}
use Rattle.dcc_model.specs.Sessions.{Sid, opens_from, was_opened_in}
use Rattle.dcc_model.specs.Outcomes.{is_made, judged, place_of, with_act, history, after, is_new, place, outcome, acts, funds, overrun, free, kept_of, kept, was_opened_from, IsOfRequest, IsOfTopUp, IsOfExpiry}
use Rattle.dcc_model.specs.Entries.{entries_of, entries}
use Rattle.dcc_model.specs.Laws.{LaterChangesNothing, LastComesAfter, OneMoreAct, AfterStays, NewStays, PlaceStays, OutcomesStay, ActsStay, ActsAreActs, NoActs, KeptStay, OpenersStay, OneMoreOpens, AccountStays}
use Rattle.dcc_model.specs.Laws.{UnknownBefore, NewAreDecided, RequestsAreAnswered, TopUpsAreAdded, ExpiriesEnd}
use Rattle.dcc_model.proofs.Histories.{judged_new, history-acts, acts_by_history, after_by_history, history_of_acts, outcome_behind, outcome_last, outcome_before, one_more}
use Rattle.dcc_model.proofs.Requests.{IsOf, after_is_of, after_no_top_up, old_no_top_up}

pub later_changes_nothing : LaterChangesNothing
later_changes_nothing = outcome_before

pub last_comes_after : LastComesAfter
last_comes_after = outcome_last

pub one_more_act : OneMoreAct
one_more_act = one_more

pub after_stays : AfterStays
after_stays terms xs act = after_by_history terms (acts terms xs) xs act (history_of_acts terms xs)

pub new_stays : NewStays
unfolding is_new
new_stays terms xs act = ap (λ (past : List Done). is_made terms past act) (history_of_acts terms xs)

pub place_stays : PlaceStays
unfolding place
place_stays terms xs act = ap (λ (past : List Done). place_of terms past act) (history_of_acts terms xs)

either_after : (terms : TermsView) (xs ys : List Act) (act : Option Act) → history terms (reverse xs) ≡ history terms (reverse ys) → option_map (after terms xs) act ≡ option_map (after terms ys) act
either_after terms xs ys None same = refl
either_after terms xs ys (Some act) same = ap (λ (outcome : Outcome). Some outcome) (after_by_history terms xs ys act same)

outcomes_behind : (terms : TermsView) (xs ys : List Act) (k : ℕ)
    → outcome terms (acts terms xs ++ ys) (length (acts terms xs) + (k + 1)) ≡ outcome terms (xs ++ ys) (length xs + (k + 1))
outcomes_behind terms xs ys k =
    outcome_behind terms (acts terms xs) ys k
    ∙ either_after terms (acts terms xs ++ take k ys) (xs ++ take k ys) (slice_get ys k) (history-acts terms xs (take k ys))
    ∙ sym (outcome_behind terms xs ys k)

pub outcomes_stay : OutcomesStay
outcomes_stay terms xs ys k one =
    let whole : k - 1 + 1 ≡ k = omega arith in
    ap (λ (n : ℕ). outcome terms (acts terms xs ++ ys) (length (acts terms xs) + n)) (sym whole) ∙ outcomes_behind terms xs ys (k - 1)
    ∙ ap (λ (n : ℕ). outcome terms (xs ++ ys) (length xs + n)) whole

pub acts_stay : ActsStay
acts_stay terms xs ys = acts_by_history terms (acts terms xs ++ ys) (xs ++ ys) (history-acts terms xs ys)

pub acts_are_acts : ActsAreActs
acts_are_acts terms xs = acts_by_history terms (acts terms xs) xs (history_of_acts terms xs)

pub no_acts : NoActs
unfolding acts
no_acts terms = refl

pub kept_stay : KeptStay
unfolding kept
kept_stay terms xs key = ap (λ (past : List Done). kept_of past key) (history_of_acts terms xs)

pub openers_stay : OpenersStay
unfolding was_opened_from
openers_stay terms xs host sid = ap (λ (past : List Done). was_opened_in past host sid) (history_of_acts terms xs)

one_more_made : (terms : TermsView) (past : List Done) (act : Act) (host : List ℕ) (sid : Sid)
    → was_opened_in (with_act terms past act) host sid
    ≡ ((is_made terms past act && opens_from (record { act = act; outcome = judged terms past act }) host sid) || was_opened_in past host sid)
one_more_made terms past act host sid =
    elim (cases_Bool (is_made terms past act)) [
      | inl t ↦ rw t refl
      | inr f ↦ rw f refl
    ]

pub one_more_opens : OneMoreOpens
unfolding was_opened_from is_new after
one_more_opens terms xs act host sid =
    let turned : reverse (xs ++ act ∷ []) ≡ act ∷ reverse xs = reverse-append xs (act ∷ []) in
    ap (λ (all : List Act). was_opened_in (history terms all) host sid) turned ∙ one_more_made terms (history terms (reverse xs)) act host sid

pub account_stays : AccountStays
unfolding funds overrun free entries
account_stays terms xs =
    let same = history_of_acts terms xs in
    (ap (funds_of terms) same, ap (overrun_of terms) same, ap (free_of terms) same, ap (entries_of terms) same)

pub unknown_before : UnknownBefore
unknown_before terms xs act unknown none is = (after_no_top_up terms xs act unknown none is, old_no_top_up terms xs act unknown none is)

request_of : (k : Kind) (outcome : Outcome) → is_some (request_key k) ≡ true → IsOf k outcome → IsOfRequest outcome
request_of (kind.TopUp top_up) outcome request is = absurd cc
request_of (kind.Initial opening limit host) outcome request is = is
request_of (kind.Update report) outcome request is = is
request_of (kind.Termination report) outcome request is = is
request_of (kind.Event event) outcome request is = is
request_of kind.Expiry outcome request is = absurd cc

top_up_of : (k : Kind) (outcome : Outcome) → is_some (ticket k) ≡ true → IsOf k outcome → IsOfTopUp outcome
top_up_of (kind.TopUp top_up) outcome top is = is
top_up_of (kind.Initial opening limit host) outcome top is = absurd cc
top_up_of (kind.Update report) outcome top is = absurd cc
top_up_of (kind.Termination report) outcome top is = absurd cc
top_up_of (kind.Event event) outcome top is = absurd cc
top_up_of kind.Expiry outcome top is = absurd cc

expiry_of : (k : Kind) (outcome : Outcome) → is_expiry k ≡ true → IsOf k outcome → IsOfExpiry outcome
expiry_of (kind.TopUp top_up) outcome expiry is = absurd cc
expiry_of (kind.Initial opening limit host) outcome expiry is = absurd cc
expiry_of (kind.Update report) outcome expiry is = absurd cc
expiry_of (kind.Termination report) outcome expiry is = absurd cc
expiry_of (kind.Event event) outcome expiry is = absurd cc
expiry_of kind.Expiry outcome expiry is = is

pub new_are_decided : NewAreDecided
new_are_decided terms xs act made = judged_new terms (history terms (reverse xs)) act made

pub requests_are_answered : RequestsAreAnswered
requests_are_answered terms xs act request = request_of act.kind (after terms xs act) request (after_is_of terms xs act)

pub top_ups_are_added : TopUpsAreAdded
top_ups_are_added terms xs act top = top_up_of act.kind (after terms xs act) top (after_is_of terms xs act)

pub expiries_end : ExpiriesEnd
expiries_end terms xs act expiry = expiry_of act.kind (after terms xs act) expiry (after_is_of terms xs act)
