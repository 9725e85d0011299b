-- The sessions that are open, as they are kept and as the definitions look back for them.
use Rattle.std.proofs.Common.{◌≡◌, ℕ, Bool, true, false, not, ◌&&◌, ◌||◌, cond, List, [], ◌∷◌, map, length, refl, sym, ap, ◌∙◌, inl, inr, filter, count_by, bytes_eq, Option, Some, None, arith}
use Rattle.std.specs.Prelude.{is_some, nat_le}
use Rattle.std.specs.List.{list_any, cons_option, AllByRecursion}
use Rattle.std.specs.Option.{option_map_or}
use Rattle.std.proofs.lemmas.Bool.{cases_Bool, or_parts, and_parts}
use Rattle.std.proofs.lemmas.List.{length-map}
use Rattle.std.proofs.lemmas.List.Sums.{sum_by-cons}
use Rattle.std.proofs.lemmas.Map.Views.{any-filter_same}
use Rattle.dcc_tariff.specs.Terms.{TermsView}
use Rattle.dcc_model.specs.declared.done.Done.{Done}
use Rattle.dcc_model.specs.Laws.{IsOpenedOnce}
use Rattle.dcc_model.specs.Outcomes.{expired}
use Rattle.dcc_model.specs.Sessions.{Sid, Live, opens_by, is_sid, opens, ends, deadline, is_open, was_opened, opened, open_sessions, lives}
use Rattle.dcc_state.specs.OpenSessions.{SessionView, is_of, grants_of, session_at, is_session, session_in, AreApart, AreOpen, is_over_at, own_in}
use Rattle.dcc_state.specs.inner.Judged.{is_open_in, expired_in}
use Rattle.dcc_state.proofs.Names.{same_sid, sid_is_own, flipped, is_among, AreDifferent, weight, same_counts, different_still, all_counted}
use Rattle.dcc_state.proofs.OwnGrants.{IsSound}

-- a session that isn't open has no live grants
none_of_shut : (terms : TermsView) (past : List Done) (sid : Sid) (all : List Live) → AllByRecursion (λ (held : Live). is_open terms past held.sid ≡ true) all → is_open terms past sid ≡ false
    → filter (is_of sid) all ≡ []
none_of_shut terms past sid [] are shut = refl
none_of_shut terms past sid (held ∷ all) are shut =
    elim (cases_Bool (bytes_eq sid held.sid)) [
      | inl t ↦ let now : is_open terms past sid ≡ true = ap (is_open terms past) (same_sid sid held.sid t) ∙ are.0 in absurd cc
      | inr f ↦ rw f (none_of_shut terms past sid all are.1 shut)
    ]

pub own_is : (terms : TermsView) (past : List Done) (sessions : List SessionView) → IsSound terms past → AreOpen terms past sessions → (sid : Sid) → own_in sessions sid ≡ grants_of terms past sid
own_is terms past sessions sound are sid =
    ap (λ (session : Option SessionView). option_map_or (λ (s : SessionView). s.grants) session []) (are.found sid)
    ∙ elim (cases_Bool (is_open terms past sid)) [
      | inl t ↦ rw t refl
      | inr f ↦ rw (f, none_of_shut terms past sid (lives terms past) sound.are_open f) refl
    ]

pub open_is : (terms : TermsView) (past : List Done) (sessions : List SessionView) → AreOpen terms past sessions → (sid : Sid) → is_open_in sessions sid ≡ is_open terms past sid
open_is terms past sessions are sid =
    ap (λ (session : Option SessionView). is_some session) (are.found sid)
    ∙ elim (cases_Bool (is_open terms past sid)) [ inl t ↦ rw t refl | inr f ↦ rw f refl ]

abbrev pub sid_of : SessionView → Sid
sid_of session = session.sid

pub among_is : (sessions : List SessionView) (sid : Sid) → list_any (is_session sid) sessions ≡ is_among sid (map sid_of sessions)
among_is [] sid = refl
among_is (session ∷ sessions) sid = ap (λ (b : Bool). bytes_eq session.sid sid || b) (among_is sessions sid)

pub found_any : (sessions : List SessionView) (sid : Sid) → is_some (session_in sessions sid) ≡ list_any (is_session sid) sessions
found_any [] sid = refl
found_any (session ∷ sessions) sid = elim (cases_Bool (bytes_eq session.sid sid)) [ inl t ↦ rw t refl | inr f ↦ rw f (found_any sessions sid) ]

apart_are : (sessions : List SessionView) → AreApart sessions → AreDifferent (map sid_of sessions)
apart_are [] apart = tt
apart_are (session ∷ sessions) apart = (sym (among_is sessions session.sid) ∙ apart.0, apart_are sessions apart.1)

pub others_of : (sid : Sid) (sessions : List SessionView) → list_any (is_session sid) sessions ≡ false → AllByRecursion (λ (session : SessionView). bytes_eq session.sid sid ≡ false) sessions
others_of sid [] h = tt
others_of sid (session ∷ sessions) h = let parts = or_parts (bytes_eq session.sid sid) (list_any (is_session sid) sessions) h in (parts.0, others_of sid sessions parts.1)

behind : (first : SessionView) (rest : List SessionView) (whole : List SessionView) → AllByRecursion (λ (session : SessionView). bytes_eq session.sid first.sid ≡ false) rest
    → AllByRecursion (λ (session : SessionView). session_in whole session.sid ≡ Some session) rest
    → AllByRecursion (λ (session : SessionView). session_in (first ∷ whole) session.sid ≡ Some session) rest
behind first [] whole others found = tt
behind first (session ∷ rest) whole others found =
    (let other : bytes_eq first.sid session.sid ≡ false = flipped first.sid session.sid ∙ others.0 in rw other found.0, behind first rest whole others.1 found.1)

-- each of different sessions is found by its name
pub each_found : (sessions : List SessionView) → AreApart sessions → AllByRecursion (λ (session : SessionView). session_in sessions session.sid ≡ Some session) sessions
each_found [] apart = tt
each_found (session ∷ sessions) apart =
    (rw (sid_is_own session.sid) refl, behind session sessions sessions (others_of session.sid sessions apart.0) (each_found sessions apart.1))

-- a session as the definitions have it
pub record IsAsDefined (terms : TermsView) (past : List Done) (session : SessionView) : Type 0 where
  pub now : is_open terms past session.sid ≡ true
  pub until : session.deadline ≡ deadline terms past session.sid
  pub holds : session.grants ≡ grants_of terms past session.sid

as_found : (terms : TermsView) (past : List Done) (session : SessionView) → session_at terms past session.sid ≡ Some session → IsAsDefined terms past session
as_found terms past session is =
    elim (cases_Bool (is_open terms past session.sid)) [
      | inl t ↦
          let made : session_at terms past session.sid ≡ Some (record { sid = session.sid; deadline = deadline terms past session.sid; grants = grants_of terms past session.sid }) = rw t refl in
          let same : session ≡ record { sid = session.sid; deadline = deadline terms past session.sid; grants = grants_of terms past session.sid } = cc in
          record { now = t; until = ap (λ (s : SessionView). s.deadline) same; holds = ap (λ (s : SessionView). s.grants) same }
      | inr f ↦ let none : session_at terms past session.sid ≡ None = rw f refl in absurd cc
    ]

each_by : (terms : TermsView) (past : List Done) (whole : List SessionView) (some : List SessionView) → AreOpen terms past whole
    → AllByRecursion (λ (session : SessionView). session_in whole session.sid ≡ Some session) some → AllByRecursion (IsAsDefined terms past) some
each_by terms past whole [] are found = tt
each_by terms past whole (session ∷ some) are found =
    (as_found terms past session (sym (are.found session.sid) ∙ found.0), each_by terms past whole some are found.1)

pub each_is : (terms : TermsView) (past : List Done) (sessions : List SessionView) → AreOpen terms past sessions → AllByRecursion (IsAsDefined terms past) sessions
each_is terms past sessions are = each_by terms past sessions sessions are (each_found sessions are.apart)

over_by : (terms : TermsView) (past : List Done) (moment : ℕ) (sessions : List SessionView) → AllByRecursion (IsAsDefined terms past) sessions
    → count_by (is_over_at moment) sessions ≡ count_by (λ sid. nat_le (deadline terms past sid) moment) (map sid_of sessions)
over_by terms past moment [] are = refl
over_by terms past moment (session ∷ sessions) are =
    let rest = over_by terms past moment sessions are.1 in
    let here : weight (is_over_at moment) session ≡ weight (λ sid. nat_le (deadline terms past sid) moment) session.sid = ap (λ (n : ℕ). cond (nat_le n moment) 1 0) are.0.until in
    let more = sum_by-cons (λ (s : SessionView). cond (is_over_at moment s) 1 0) session sessions in
    let named = sum_by-cons (λ (sid : Sid). cond (nat_le (deadline terms past sid) moment) 1 0) session.sid (map sid_of sessions) in
    omega arith

opened_among : (past : List Done) (sid : Sid) → is_among sid (opened past) ≡ was_opened past sid
opened_among [] sid = refl
opened_among (done ∷ past) sid =
    let go : (session : Option Sid) → is_among sid (cons_option session (opened past)) ≡ (is_sid session sid || was_opened past sid) =
    elim [ None ↦ opened_among past sid | Some own ↦ ap (λ (b : Bool). bytes_eq own sid || b) (opened_among past sid) ] in
    go (opens_by done.act.kind done.outcome)

with_opened : (session : Option Sid) (past : List Done) → ((sid : Sid) → is_sid session sid ≡ true → was_opened past sid ≡ false) → AreDifferent (opened past) → AreDifferent (cons_option session (opened past))
with_opened None past new apart = apart
with_opened (Some own) past new apart = (opened_among past own ∙ new own (sid_is_own own), apart)

opened_apart : (past : List Done) → IsOpenedOnce past → AreDifferent (opened past)
opened_apart [] once = tt
opened_apart (done ∷ past) once = with_opened (opens_by done.act.kind done.outcome) past once.0 (opened_apart past once.1)

open_was : (terms : TermsView) (past : List Done) (sid : Sid) → is_open terms past sid ≡ true → was_opened past sid ≡ true
open_was terms [] sid h = absurd cc
open_was terms (done ∷ past) sid h =
    elim (cases_Bool (opens done sid)) [
      | inl t ↦ rw t refl
      | inr f ↦
          let both = and_parts (is_open terms past sid) (not (ends terms past done sid)) (rw f at h) in
          rw (f, open_was terms past sid both.0) refl
    ]

filtered_among : (p : Sid → Bool) (sid : Sid) (names : List Sid) → is_among sid (filter p names) ≡ (p sid && is_among sid names)
filtered_among p sid names = any-filter_same (λ (name : Sid). bytes_eq name sid) p (p sid) (λ name h. ap p (same_sid name sid h)) names

open_among : (terms : TermsView) (past : List Done) (sid : Sid) → is_among sid (open_sessions terms past) ≡ is_open terms past sid
open_among terms past sid =
    filtered_among (is_open terms past) sid (opened past)
    ∙ elim (cases_Bool (is_open terms past sid)) [
      | inl t ↦ rw (t, opened_among past sid) (open_was terms past sid t)
      | inr f ↦ rw f refl
    ]

same_among : (terms : TermsView) (past : List Done) (sessions : List SessionView) → AreOpen terms past sessions → (sid : Sid)
    → is_among sid (map sid_of sessions) ≡ is_among sid (open_sessions terms past)
same_among terms past sessions are sid = sym (among_is sessions sid) ∙ sym (found_any sessions sid) ∙ open_is terms past sessions are sid ∙ sym (open_among terms past sid)

counts_are : (terms : TermsView) (past : List Done) (sessions : List SessionView) → IsOpenedOnce past → AreOpen terms past sessions → (test : Sid → Bool)
    → count_by test (map sid_of sessions) ≡ count_by test (open_sessions terms past)
counts_are terms past sessions once are test =
    same_counts test (map sid_of sessions) (open_sessions terms past) (apart_are sessions are.apart) (different_still (is_open terms past) (opened past) (opened_apart past once)) (same_among terms past sessions are)

-- as many sessions are kept as are open
pub many_are : (terms : TermsView) (past : List Done) (sessions : List SessionView) → IsOpenedOnce past → AreOpen terms past sessions → length sessions ≡ length (open_sessions terms past)
many_are terms past sessions once are =
    sym (length-map sessions sid_of) ∙ sym (all_counted (map sid_of sessions)) ∙ counts_are terms past sessions once are (λ sid. true) ∙ all_counted (open_sessions terms past)

-- and an expiry ends as many
pub expired_are : (terms : TermsView) (past : List Done) (sessions : List SessionView) → IsOpenedOnce past → AreOpen terms past sessions → (moment : ℕ) → expired_in sessions moment ≡ expired terms past moment
expired_are terms past sessions once are moment =
    over_by terms past moment sessions (each_is terms past sessions are) ∙ counts_are terms past sessions once are (λ sid. nat_le (deadline terms past sid) moment)
