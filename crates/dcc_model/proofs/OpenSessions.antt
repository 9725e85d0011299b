-- A session is opened once, and few are open.
use Rattle.std.proofs.Common.{◌≡◌, ℕ, ◌+◌, ◌≤◌, Bool, true, false, not, ◌&&◌, ◌||◌, List, [], ◌∷◌, length, reverse, refl, sym, ap, subst, ◌∙◌, arith, inl, inr, filter, bytes_eq, Option, Some, None}
use Rattle.std.specs.List.{cons_option, AllByRecursion}
use Rattle.std.proofs.lemmas.Bool.{cases_Bool, and_parts, or_parts}
use Rattle.std.proofs.lemmas.Bool.Decides.{nat_tests}
use Rattle.std.proofs.lemmas.Option.{cond_some}
use Rattle.std.proofs.lemmas.Slice.Eq.{bytes_eq-Decides}
use Rattle.dcc_tariff.specs.Terms.{TermsView}
use Rattle.dcc_act.specs.Services.{ServiceView}
use Rattle.dcc_act.specs.declared.act.Act.{Act}
use Rattle.dcc_act.specs.declared.act.Kind.{Kind}
use Rattle.dcc_act.specs.declared.act.Kind.TheVariants as kind
use Rattle.dcc_act.specs.declared.limits.TheConstants.{MAX_SESSIONS}
use Rattle.dcc_act.specs.declared.outcome.Outcome.{Outcome}
use Rattle.dcc_act.specs.declared.request_key.RequestKey.{RequestKey}
use Rattle.dcc_act.specs.declared.session_limit.SessionLimit.{SessionLimit}
use Rattle.dcc_model.specs.declared.done.Done.{Done}
use Rattle.dcc_model.specs.Results.{succeeded}
use Rattle.dcc_model.specs.Sessions.{Sid, opens_by, is_sid, opens, ends, is_open, was_opened, opened, open_sessions, looked_at}
use Rattle.dcc_model.specs.Outcomes.{begun, decided, is_made, history}
use Rattle.dcc_model.specs.Laws.{IsOpenedOnce, SessionsOpenOnce, FewAreOpen}
use Rattle.dcc_model.proofs.Histories.{judged_new}
use Rattle.dcc_model.proofs.Served.{MayOpen, begun_cases}
use Rattle.dcc_model.proofs.Grants.{same_sid}

begun_may : (terms : TermsView) (past : List Done) (key : RequestKey) (limit : SessionLimit) (services : List ServiceView) → succeeded (begun terms past key limit services) ≡ true → MayOpen terms past key.sid
begun_may terms past key limit services h = elim (begun_cases terms past key limit services) [ inl opening ↦ opening.1 | inr f ↦ absurd cc ]

-- what is decided opens only what may be opened
pub opens_what_may : (terms : TermsView) (past : List Done) (moment : ℕ) (k : Kind) (sid : Sid) → opens_by k (decided terms past moment k) ≡ Some sid → MayOpen terms past sid
opens_what_may terms past moment (kind.TopUp top_up) sid h = absurd cc
opens_what_may terms past moment (kind.Initial opening limit host) sid h =
    let parts = cond_some (succeeded (decided terms past moment (kind.Initial opening limit host))) opening.key.sid sid h in
    subst (MayOpen terms past) parts.1 (begun_may terms past opening.key limit (looked_at (kind.Initial opening limit host)) parts.0)
opens_what_may terms past moment (kind.Update report) sid h = absurd cc
opens_what_may terms past moment (kind.Termination report) sid h = absurd cc
opens_what_may terms past moment (kind.Event event) sid h = absurd cc
opens_what_may terms past moment kind.Expiry sid h = absurd cc

pub own_sid : (session : Option Sid) (sid : Sid) → is_sid session sid ≡ true → session ≡ Some sid
own_sid None sid h = absurd cc
own_sid (Some own) sid h = ap (λ (s : Sid). Some s) (same_sid own sid h)

-- an act opens only what may be opened
pub record Opens (terms : TermsView) (past : List Done) (done : Done) : Type 0 where
  pub may : (sid : Sid) → opens_by done.act.kind done.outcome ≡ Some sid → MayOpen terms past sid

-- and so did each before it
abbrev pub AllOpen : TermsView → List Done → Type 0
AllOpen terms [] = Unit {0}
AllOpen terms (done ∷ past) = Opens terms past done × AllOpen terms past

pub history_opens : (terms : TermsView) (all : List Act) → AllOpen terms (history terms all)
history_opens terms [] = tt
history_opens terms (act ∷ earlier) =
    let past = history terms earlier in
    let before = history_opens terms earlier in
    elim (cases_Bool (is_made terms past act)) [
      | inl t ↦ rw t (
          let is = judged_new terms past act t in (
            subst (λ (outcome : Outcome). Opens terms past (record { act = act; outcome = outcome })) (sym is)
                (record { may = opens_what_may terms past act.moment act.kind }),
            before,
          ))
      | inr f ↦ rw f before
    ]

once_in : (terms : TermsView) (past : List Done) → AllOpen terms past → IsOpenedOnce past
once_in terms [] all = tt
once_in terms (done ∷ past) all =
    ((λ sid h. let is = own_sid (opens_by done.act.kind done.outcome) sid h in (all.0.may sid is).new), once_in terms past all.1)

pub sessions_open_once : SessionsOpenOnce
sessions_open_once terms xs = once_in terms (history terms (reverse xs)) (history_opens terms (reverse xs))

pub apart_both_ways : (a b : Sid) → bytes_eq a b ≡ false → bytes_eq b a ≡ false
apart_both_ways a b h =
    elim (cases_Bool (bytes_eq b a)) [
      | inl t ↦ let same : bytes_eq a b ≡ true = (bytes_eq-Decides a b).1 (sym (same_sid b a t)) in absurd cc
      | inr f ↦ f
    ]

apart_with : (session : Option Sid) (sid : Sid) (sids : List Sid) → is_sid session sid ≡ false → AllByRecursion (λ other. bytes_eq sid other ≡ false) sids
    → AllByRecursion (λ other. bytes_eq sid other ≡ false) (cons_option session sids)
apart_with None sid sids h all = all
apart_with (Some own) sid sids h all = (apart_both_ways own sid h, all)

-- a session that was never opened is none of those that were
apart_from_opened : (past : List Done) (sid : Sid) → was_opened past sid ≡ false → AllByRecursion (λ other. bytes_eq sid other ≡ false) (opened past)
apart_from_opened [] sid h = tt
apart_from_opened (done ∷ past) sid h =
    let parts = or_parts (opens done sid) (was_opened past sid) h in
    apart_with (opens_by done.act.kind done.outcome) sid (opened past) parts.0 (apart_from_opened past sid parts.1)

or_second : (a b : Bool) → a ≡ false → (a || b) ≡ true → b ≡ true
or_second true b unset h = absurd cc
or_second false b unset h = h

-- what is open that an act did not open was open before it, and the act did not end it
pub open_before : (terms : TermsView) (past : List Done) (done : Done) (sid : Sid) → opens done sid ≡ false → is_open terms (done ∷ past) sid ≡ true
    → (is_open terms past sid ≡ true) × (not (ends terms past done sid) ≡ true)
open_before terms past done sid unopened h =
    and_parts (is_open terms past sid) (not (ends terms past done sid)) (or_second (opens done sid) (is_open terms past sid && not (ends terms past done sid)) unopened h)

fewer : (p q : Sid → Bool) (sids : List Sid) → AllByRecursion (λ sid. p sid ≡ true → q sid ≡ true) sids → length (filter p sids) ≤ length (filter q sids)
fewer p q [] all = omega arith
fewer p q (sid ∷ sids) all =
    let rest = fewer p q sids all.1 in
    elim (cases_Bool (p sid)) [
      | inl t ↦ let here = all.0 t in rw (t, here) (omega arith)
      | inr f ↦ rw f (elim (cases_Bool (q sid)) [ inl t ↦ rw t (omega arith) | inr g ↦ rw g rest ])
    ]

all_more : (P Q : Sid → Type 0) → ((sid : Sid) → P sid → Q sid) → (sids : List Sid) → AllByRecursion P sids → AllByRecursion Q sids
all_more P Q more [] all = tt
all_more P Q more (sid ∷ sids) all = (more sid all.0, all_more P Q more sids all.1)

all_are : (P : Sid → Type 0) → ((sid : Sid) → P sid) → (sids : List Sid) → AllByRecursion P sids
all_are P are [] = tt
all_are P are (sid ∷ sids) = (are sid, all_are P are sids)

one_more : (p : Sid → Bool) (sid : Sid) (sids : List Sid) → length (filter p (sid ∷ sids)) ≤ 1 + length (filter p sids)
one_more p sid sids = elim (cases_Bool (p sid)) [ inl t ↦ rw t (omega arith) | inr f ↦ rw f (omega arith) ]

few_with : (terms : TermsView) (past : List Done) (done : Done) (session : Option Sid) → opens_by done.act.kind done.outcome ≡ session → Opens terms past done
    → length (open_sessions terms past) ≤ MAX_SESSIONS → length (filter (is_open terms (done ∷ past)) (cons_option session (opened past))) ≤ MAX_SESSIONS
few_with terms past done None is new few =
    let unopened : (sid : Sid) → opens done sid ≡ false = λ sid. ap (λ (o : Option Sid). is_sid o sid) is in
    let less = fewer (is_open terms (done ∷ past)) (is_open terms past) (opened past)
    (all_are (λ sid. is_open terms (done ∷ past) sid ≡ true → is_open terms past sid ≡ true) (λ sid h. (open_before terms past done sid (unopened sid) h).0) (opened past)) in
    omega arith
few_with terms past done (Some own) is new few =
    let may = new.may own is in
    let other : (sid : Sid) → bytes_eq own sid ≡ false → opens done sid ≡ false = λ sid h. ap (λ (o : Option Sid). is_sid o sid) is ∙ h in
    let less = fewer (is_open terms (done ∷ past)) (is_open terms past) (opened past)
    (all_more (λ sid. bytes_eq own sid ≡ false) (λ sid. is_open terms (done ∷ past) sid ≡ true → is_open terms past sid ≡ true)
    (λ sid apart h. (open_before terms past done sid (other sid apart) h).0) (opened past) (apart_from_opened past own may.new)) in
    let one = one_more (is_open terms (done ∷ past)) own (opened past) in
    let room = may.few in
    grind (arith, nat_tests)

few_in : (terms : TermsView) (past : List Done) → AllOpen terms past → length (open_sessions terms past) ≤ MAX_SESSIONS
few_in terms [] all = omega arith
few_in terms (done ∷ past) all = few_with terms past done (opens_by done.act.kind done.outcome) refl all.0 (few_in terms past all.1)

pub few_are_open : FewAreOpen
few_are_open terms xs = few_in terms (history terms (reverse xs)) (history_opens terms (reverse xs))
