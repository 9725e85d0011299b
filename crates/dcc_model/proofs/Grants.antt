-- A live grant is among all live grants.
use Rattle.std.proofs.Common.{◌≡◌, ℕ, ◌≤◌, true, false, not, ◌&&◌, List, [], ◌∷◌, refl, sym, ap, ◌∙◌, arith, inl, inr, filter, filter_map, sum_by, bytes_eq, Option, Some, None, option_map}
use Rattle.std.specs.Prelude.{find, unwrap_or}
use Rattle.std.specs.List.{list_any, cons_option}
use Rattle.std.specs.Option.{option_map_or, option_and_then}
use Rattle.std.proofs.lemmas.List.Elements.{filter-append}
use Rattle.std.proofs.lemmas.Bool.{cases_Bool, and_parts, eqb-true}
use Rattle.std.proofs.lemmas.Bool.Decides.{nat_tests}
use Rattle.std.proofs.lemmas.List.Sums.{sum_by-cons, sum_by-append}
use Rattle.std.proofs.lemmas.Slice.Eq.{bytes_eq-Decides}
use Rattle.dcc_tariff.specs.Terms.{TermsView}
use Rattle.dcc_act.specs.Answers.{answer_key}
use Rattle.dcc_act.specs.ServiceKeys.{same_number, same_service}
use Rattle.dcc_act.specs.declared.grant.Grant.{Grant}
use Rattle.dcc_act.specs.declared.outcome.ServiceAnswer.{ServiceAnswer}
use Rattle.dcc_act.specs.declared.service_key.ServiceKey.{ServiceKey}
use Rattle.dcc_model.specs.declared.done.Done.{Done}
use Rattle.dcc_model.specs.Results.{answers_of}
use Rattle.dcc_model.specs.Sessions.{Sid, Live, is_sid, session_of, opens, ends, names, named, made_by, live_of, is_open, lives, goes_on, looked_at}
use Rattle.dcc_model.specs.Money.{grant_price, live_price, held_price}
use Rattle.dcc_model.specs.Laws.{is_at}
use Rattle.dcc_model.proofs.Sums.{sum_filter_twice}

same_number-true : (a b : Option ℕ) → same_number a b ≡ true → a ≡ b
same_number-true None None h = refl
same_number-true None (Some b) h = absurd cc
same_number-true (Some a) None h = absurd cc
same_number-true (Some a) (Some b) h = let e = eqb-true a b h in ap (λ (n : ℕ). Some n) e

pub same_service-true : (a b : ServiceKey) → same_service a b ≡ true → a ≡ b
same_service-true a b h =
    let p = and_parts (same_number a.group b.group) (same_number a.id b.id) h in
    let groups = same_number-true a.group b.group p.0 in
    let ids = same_number-true a.id b.id p.1 in
    let with_group : Option ℕ → ServiceKey = λ g. record { group = g; id = a.id } in
    let with_id : Option ℕ → ServiceKey = λ i. record { group = b.group; id = i } in
    ap with_group groups ∙ ap with_id ids

pub same_sid : (a b : Sid) → bytes_eq a b ≡ true → a ≡ b
same_sid a b h = (bytes_eq-Decides a b).0 h

pub sid_is_own : (a : Sid) → bytes_eq a a ≡ true
sid_is_own a = (bytes_eq-Decides a a).1 refl

first_among : (sid : Sid) (key own : ServiceKey) (grant : Option Grant) (rest : List Live) → same_service own key ≡ true
    → option_map_or grant_price grant 0 ≤ sum_by held_price (filter (is_at sid key) (cons_option (option_map (λ grant. record { sid = sid; key = own; grant = grant }) grant) rest))
first_among sid key own None rest t = omega arith
first_among sid key own (Some grant) rest t =
    let held : Live = record { sid = sid; key = own; grant = grant } in
    rw (sid_is_own sid, t, sum_by-cons held_price held (filter (is_at sid key) rest)) (omega arith)

more_among : (sid : Sid) (key own : ServiceKey) (grant : Option Grant) (rest : List Live) (n : ℕ) → n ≤ sum_by held_price (filter (is_at sid key) rest)
    → n ≤ sum_by held_price (filter (is_at sid key) (cons_option (option_map (λ grant. record { sid = sid; key = own; grant = grant }) grant) rest))
more_among sid key own None rest n le = le
more_among sid key own (Some grant) rest n le =
    let held : Live = record { sid = sid; key = own; grant = grant } in
    elim (cases_Bool (is_at sid key held)) [
      | inl t ↦ rw (t, sum_by-cons held_price held (filter (is_at sid key) rest)) (omega arith)
      | inr f ↦ rw f le
    ]

-- the grant that the answers made to a service is among those that they made
among : (sid : Sid) (key : ServiceKey) (answers : List ServiceAnswer)
    → option_map_or grant_price (option_and_then (λ (answer : ServiceAnswer). answer.grant) (find (λ answer. same_service (answer_key answer) key) answers)) 0
    ≤ sum_by held_price (filter (is_at sid key) (filter_map (live_of sid) answers))
among sid key [] = omega arith
among sid key (answer ∷ answers) =
    let rest = among sid key answers in
    elim (cases_Bool (same_service (answer_key answer) key)) [
      | inl t ↦ rw t (first_among sid key (answer_key answer) answer.grant (filter_map (live_of sid) answers) t)
      | inr f ↦ rw f (more_among sid key (answer_key answer) answer.grant (filter_map (live_of sid) answers) _ rest)
    ]

among_of : (session : Option Sid) (sid : Sid) (key : ServiceKey) (answers : List ServiceAnswer) → is_sid session sid ≡ true
    → option_map_or grant_price (option_and_then (λ (answer : ServiceAnswer). answer.grant) (find (λ answer. same_service (answer_key answer) key) answers)) 0
    ≤ sum_by held_price (filter (is_at sid key) (unwrap_or (option_map (λ own. filter_map (live_of own) answers) session) []))
among_of None sid key answers h = absurd cc
among_of (Some own) sid key answers h = rw (same_sid own sid h) (among sid key answers)

-- a grant goes on where its session goes on and its service isn't named
pub stays_at : (terms : TermsView) (past : List Done) (done : Done) (sid : Sid) (key : ServiceKey) → names done sid key ≡ false → ends terms past done sid ≡ false
    → (held : Live) → is_at sid key held ≡ true → goes_on terms past done held ≡ true
stays_at terms past done sid key unnamed unended held h =
    let p = and_parts (bytes_eq sid held.sid) (same_service held.key key) h in
    let sids : held.sid ≡ sid = sym (same_sid sid held.sid p.0) in
    let keys : held.key ≡ key = same_service-true held.key key p.1 in
    rw (sids, keys, unended, unnamed) refl

abbrev named_by : Done → List ServiceKey
named_by done = named (looked_at done.act.kind)

opened_before : (terms : TermsView) (past : List Done) (done : Done) (sid : Sid) → opens done sid ≡ false → is_open terms (done ∷ past) sid ≡ true → (is_open terms past sid && not (ends terms past done sid)) ≡ true
opened_before terms past done sid unopened h = rw unopened at h

-- a live grant is among all live grants
pub live_among : (terms : TermsView) (past : List Done) (sid : Sid) (key : ServiceKey) → live_price terms past sid key ≤ sum_by held_price (filter (is_at sid key) (lives terms past))
live_among terms [] sid key = omega arith
live_among terms (done ∷ past) sid key =
    let before = live_among terms past sid key in
    rw (filter-append (is_at sid key) (made_by done) (filter (goes_on terms past done) (lives terms past)), sum_by-append held_price (filter (is_at sid key) (made_by done)) (filter (is_at sid key) (filter (goes_on terms past done) (lives terms past))))
    (elim (cases_Bool (is_open terms (done ∷ past) sid)) [
      | inr shut ↦ rw shut (omega arith)
      | inl here ↦ rw here (elim (cases_Bool (names done sid key)) [
        | inl t ↦ rw t (
            let p = and_parts (is_sid (session_of done) sid) (list_any (same_service key) (named_by done)) t in
            let le = among_of (session_of done) sid key (answers_of done.outcome) p.0 in
            omega arith)
        | inr unnamed ↦ rw unnamed (elim (cases_Bool (opens done sid)) [
          | inl t ↦ rw t (omega arith)
          | inr unopened ↦ rw unopened (
              let both = and_parts (is_open terms past sid) (not (ends terms past done sid)) (opened_before terms past done sid unopened here) in
              let unended : ends terms past done sid ≡ false = grind (arith, nat_tests, both.1) in
              let old = rw both.0 at before in
              let le = sum_filter_twice held_price (is_at sid key) (goes_on terms past done) (stays_at terms past done sid key unnamed unended) (lives terms past) in
              omega arith)
        ])
      ])
    ])
