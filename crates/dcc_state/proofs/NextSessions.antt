-- The sessions that are open after one more act, as the definitions look back for them.
use Rattle.std.proofs.Common.{◌≡◌, ℕ, ◌+◌, Bool, true, false, not, ◌&&◌, ◌||◌, cond, List, [], ◌∷◌, ◌++◌, map, refl, sym, ap, ◌∙◌, inl, inr, filter, bytes_eq, Option, Some, None}
use Rattle.std.specs.Prelude.{filter_map, option_map, nat_le, unwrap_or}
use Rattle.std.specs.List.{cons_option}
use Rattle.std.proofs.lemmas.Bool.{cases_Bool}
use Rattle.std.proofs.lemmas.List.{map-append}
use Rattle.std.proofs.lemmas.List.Elements.{filter-append}
use Rattle.dcc_tariff.specs.Terms.{TermsView}
use Rattle.dcc_act.specs.Answers.{answer_key}
use Rattle.dcc_act.specs.Services.{ServiceView}
use Rattle.dcc_act.specs.declared.grant.Grant.{Grant}
use Rattle.dcc_act.specs.declared.outcome.ServiceAnswer.{ServiceAnswer}
use Rattle.dcc_model.specs.declared.done.Done.{Done}
use Rattle.dcc_model.specs.Keys.{is_expiry}
use Rattle.dcc_model.specs.Results.{answers_of}
use Rattle.dcc_model.specs.Sessions.{Sid, Live, is_sid, opens, updates, terminates, deadline, ends, is_open, session_of, looked_at, live_of, made_by, goes_on, lives}
use Rattle.dcc_session.specs.declared.held.Held.{Held}
use Rattle.dcc_session.specs.Grants.{is_given_back, left_of}
use Rattle.dcc_state.specs.Backed.{held_by}
use Rattle.dcc_state.specs.OpenSessions.{SessionView, held_of, is_of, grants_of, session_at}
use Rattle.dcc_state.proofs.Finds.{filter_turned, filter_true}
use Rattle.dcc_state.proofs.Names.{same_sid, sid_is_own, flipped}

-- what the session holds after its request: what that granted, and what it did not give back
abbrev pub grants_after : List Held → List ServiceView → List ServiceAnswer → List Held
grants_after own services made = filter_map held_by made ++ left_of own services

kept_turned : (keeps : Held → Bool) (all : List Live) → map held_of (filter (λ held. keeps (held_of held)) all) ≡ filter keeps (map held_of all)
kept_turned keeps [] = refl
kept_turned keeps (held ∷ all) =
    elim (cases_Bool (keeps (held_of held))) [ inl t ↦ rw (t, kept_turned keeps all) refl | inr f ↦ rw f (kept_turned keeps all) ]

-- the grants of a session after one more act: those that it made to it, and those before that go on
grants_with : (terms : TermsView) (past : List Done) (done : Done) (sid : Sid) (keeps : Held → Bool) → ((held : Live) → is_of sid held ≡ true → goes_on terms past done held ≡ keeps (held_of held))
    → grants_of terms (done ∷ past) sid ≡ map held_of (filter (is_of sid) (made_by done)) ++ filter keeps (grants_of terms past sid)
grants_with terms past done sid keeps goes =
    let all = lives terms past in
    let made = filter (is_of sid) (made_by done) in
    ap (map held_of) (filter-append (is_of sid) (made_by done) (filter (goes_on terms past done) all))
    ∙ ap (λ (more : List Live). map held_of (made ++ more)) (filter_turned (is_of sid) (goes_on terms past done) (λ held. keeps (held_of held)) goes all)
    ∙ map-append held_of made (filter (λ held. keeps (held_of held)) (filter (is_of sid) all))
    ∙ ap (λ (more : List Held). map held_of made ++ more) (kept_turned keeps (filter (is_of sid) all))

abbrev pub session_as : Sid → Bool → ℕ → List Held → Option SessionView
session_as sid now until holds = cond now (Some (record { sid = sid; deadline = until; grants = holds })) None

session_by : (sid : Sid) (now then : Bool) (until before : ℕ) (holds held : List Held) → now ≡ then → until ≡ before → holds ≡ held
    → session_as sid now until holds ≡ session_as sid then before held
session_by sid now then until before holds held n u h =
    ap (λ (b : Bool). session_as sid b until holds) n ∙ ap (λ (d : ℕ). session_as sid then d holds) u ∙ ap (session_as sid then before) h

and_true : (a : Bool) → (a && true) ≡ a
and_true true = refl
and_true false = refl

and_false : (a : Bool) → (a && false) ≡ false
and_false true = refl
and_false false = refl

-- an act leaves a session as it is that is none of its own, and whose time it does not end
pub quiet : (terms : TermsView) (past : List Done) (done : Done) (sid : Sid) → opens done sid ≡ false → updates done sid ≡ false → terminates done sid ≡ false → is_expiry done.act.kind ≡ false
    → is_sid (session_of done) sid ≡ false → filter (is_of sid) (made_by done) ≡ [] → session_at terms (done ∷ past) sid ≡ session_at terms past sid
quiet terms past done sid o u t e s m =
    let unended : ends terms past done sid ≡ false = rw (t, u, e) refl in
    let now : is_open terms (done ∷ past) sid ≡ is_open terms past sid = rw (o, unended) (and_true (is_open terms past sid)) in
    let until : deadline terms (done ∷ past) sid ≡ deadline terms past sid = rw (o, u) refl in
    let goes : (held : Live) → is_of sid held ≡ true → goes_on terms past done held ≡ true =
    λ held h. let same : held.sid ≡ sid = sym (same_sid sid held.sid h) in rw (same, unended, s) refl in
    let holds = grants_with terms past done sid (λ held. true) goes ∙ ap (λ (made : List Live). map held_of made ++ filter (λ held. true) (grants_of terms past sid)) m ∙ filter_true (grants_of terms past sid) in
    session_by sid (is_open terms (done ∷ past) sid) (is_open terms past sid) (deadline terms (done ∷ past) sid) (deadline terms past sid) (grants_of terms (done ∷ past) sid) (grants_of terms past sid) now until holds

-- an expiry ends a session whose time is over, and leaves any other
pub expiring : (terms : TermsView) (past : List Done) (done : Done) (sid : Sid) → opens done sid ≡ false → updates done sid ≡ false → terminates done sid ≡ false → is_expiry done.act.kind ≡ true
    → is_sid (session_of done) sid ≡ false → filter (is_of sid) (made_by done) ≡ []
    → session_at terms (done ∷ past) sid ≡ cond (nat_le (deadline terms past sid) done.act.moment) None (session_at terms past sid)
expiring terms past done sid o u t e s m =
    elim (cases_Bool (nat_le (deadline terms past sid) done.act.moment)) [
      | inl over ↦
          let ended : ends terms past done sid ≡ true = rw (t, u, e, over) refl in
          let shut : is_open terms (done ∷ past) sid ≡ false = rw (o, ended) (and_false (is_open terms past sid)) in
          rw (shut, over) refl
      | inr still ↦
          let unended : ends terms past done sid ≡ false = rw (t, u, e, still) refl in
          let now : is_open terms (done ∷ past) sid ≡ is_open terms past sid = rw (o, unended) (and_true (is_open terms past sid)) in
          let until : deadline terms (done ∷ past) sid ≡ deadline terms past sid = rw (o, u) refl in
          let goes : (held : Live) → is_of sid held ≡ true → goes_on terms past done held ≡ true =
          λ held h. let same : held.sid ≡ sid = sym (same_sid sid held.sid h) in rw (same, unended, s) refl in
          let holds = grants_with terms past done sid (λ held. true) goes ∙ ap (λ (made : List Live). map held_of made ++ filter (λ held. true) (grants_of terms past sid)) m ∙ filter_true (grants_of terms past sid) in
          session_by sid (is_open terms (done ∷ past) sid) (is_open terms past sid) (deadline terms (done ∷ past) sid) (deadline terms past sid) (grants_of terms (done ∷ past) sid) (grants_of terms past sid) now until holds
          ∙ rw still refl
    ]

made_in : (done : Done) (session : Option Sid) → session_of done ≡ session → made_by done ≡ unwrap_or (option_map (λ (own : Sid). filter_map (live_of own) (answers_of done.outcome)) session) []
made_in done session is = ap (λ (o : Option Sid). unwrap_or (option_map (λ (own : Sid). filter_map (live_of own) (answers_of done.outcome)) o) []) is

skipped : (sid own : Sid) (answer : ServiceAnswer) (grant : Option Grant) (rest : List Live) → bytes_eq sid own ≡ false
    → filter (is_of sid) (cons_option (option_map (λ grant. record { sid = own; key = answer_key answer; grant = grant }) grant) rest) ≡ filter (is_of sid) rest
skipped sid own answer None rest other = refl
skipped sid own answer (Some grant) rest other = rw other refl

none_to : (sid own : Sid) (answers : List ServiceAnswer) → bytes_eq sid own ≡ false → filter (is_of sid) (filter_map (live_of own) answers) ≡ []
none_to sid own [] other = refl
none_to sid own (answer ∷ answers) other = skipped sid own answer answer.grant (filter_map (live_of own) answers) other ∙ none_to sid own answers other

-- what an act grants, it grants to its own session
pub made_to_other : (done : Done) (own sid : Sid) → session_of done ≡ Some own → bytes_eq own sid ≡ false → filter (is_of sid) (made_by done) ≡ []
made_to_other done own sid is other = ap (filter (is_of sid)) (made_in done (Some own) is) ∙ none_to sid own (answers_of done.outcome) (flipped sid own ∙ other)

pub made_to_none : (done : Done) (sid : Sid) → session_of done ≡ None → filter (is_of sid) (made_by done) ≡ []
made_to_none done sid is = ap (filter (is_of sid)) (made_in done None is)

taken_in : (own : Sid) (answer : ServiceAnswer) (grant : Option Grant) (rest : List Live) (held : List Held) → map held_of (filter (is_of own) rest) ≡ held
    → map held_of (filter (is_of own) (cons_option (option_map (λ grant. record { sid = own; key = answer_key answer; grant = grant }) grant) rest))
    ≡ cons_option (option_map (λ grant. record { key = answer_key answer; grant = grant }) grant) held
taken_in own answer None rest held is = is
taken_in own answer (Some grant) rest held is = rw (sid_is_own own) (ap (λ (more : List Held). record { key = answer_key answer; grant = grant } ∷ more) is)

all_to : (own : Sid) (answers : List ServiceAnswer) → map held_of (filter (is_of own) (filter_map (live_of own) answers)) ≡ filter_map held_by answers
all_to own [] = refl
all_to own (answer ∷ answers) = taken_in own answer answer.grant (filter_map (live_of own) answers) (filter_map held_by answers) (all_to own answers)

made_to_own : (done : Done) (own : Sid) → session_of done ≡ Some own → map held_of (filter (is_of own) (made_by done)) ≡ filter_map held_by (answers_of done.outcome)
made_to_own done own is = ap (λ (made : List Live). map held_of (filter (is_of own) made)) (made_in done (Some own) is) ∙ all_to own (answers_of done.outcome)

-- an act's own session goes on, or begins, until the time that the plan gives it, with what it granted and what it did not give back
pub going : (terms : TermsView) (past : List Done) (done : Done) (own : Sid) → session_of done ≡ Some own → is_open terms (done ∷ past) own ≡ true → (opens done own || updates done own) ≡ true
    → ends terms past done own ≡ false
    → session_at terms (done ∷ past) own
    ≡ Some (record { sid = own; deadline = done.act.moment + terms.hold; grants = grants_after (grants_of terms past own) (looked_at done.act.kind) (answers_of done.outcome) })
going terms past done own is now moved unended =
    let here : is_sid (session_of done) own ≡ true = ap (λ (o : Option Sid). is_sid o own) is ∙ sid_is_own own in
    let until : deadline terms (done ∷ past) own ≡ done.act.moment + terms.hold = rw moved refl in
    let keeps : Held → Bool = λ held. not (is_given_back (looked_at done.act.kind) held) in
    let goes : (held : Live) → is_of own held ≡ true → goes_on terms past done held ≡ keeps (held_of held) =
    λ held h. let same : held.sid ≡ own = sym (same_sid own held.sid h) in rw (same, unended, here) refl in
    let holds = grants_with terms past done own keeps goes ∙ ap (λ (made : List Held). made ++ filter keeps (grants_of terms past own)) (made_to_own done own is) in
    session_by own (is_open terms (done ∷ past) own) true (deadline terms (done ∷ past) own) (done.act.moment + terms.hold) (grants_of terms (done ∷ past) own)
    (grants_after (grants_of terms past own) (looked_at done.act.kind) (answers_of done.outcome)) now until holds

-- or it ends
pub ending : (terms : TermsView) (past : List Done) (done : Done) (own : Sid) → opens done own ≡ false → ends terms past done own ≡ true → session_at terms (done ∷ past) own ≡ None
ending terms past done own o ended =
    let shut : is_open terms (done ∷ past) own ≡ false = rw (o, ended) (and_false (is_open terms past own)) in
    rw shut refl
