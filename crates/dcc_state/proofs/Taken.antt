-- A session is taken out of those that are open.
use Rattle.std.proofs.Common.{◌≡◌, ℕ, zero, suc, ◌+◌, ◌<◌, ◌≤◌, Bool, true, false, not, List, [], ◌∷◌, length, get_or, filter, refl, sym, ap, ◌∙◌, inl, inr, arith, bytes_eq, Some, None}
use Rattle.std.specs.Prelude.{position, remove, nat_lt}
use Rattle.std.specs.List.{list_any, position_or_len}
use Rattle.std.proofs.lemmas.Bool.{cases_Bool}
use Rattle.std.proofs.lemmas.Bool.Decides.{nat_tests}
use Rattle.dcc_model.specs.Sessions.{Sid}
use Rattle.dcc_state.specs.OpenSessions.{SessionView, is_session, own_in, AreApart}
use Rattle.dcc_state.proofs.Names.{same_sid}
use Rattle.dcc_state.proofs.Totals.{others_kept}

-- what is taken out at the place of a session is that session, and the others are left
pub taken_at : (sessions : List SessionView) (sid : Sid) (i : ℕ) (d : SessionView) → i < length sessions → is_session sid (get_or sessions i d) ≡ true
    → ((k : ℕ) → k < i → is_session sid (get_or sessions k d) ≡ false) → AreApart sessions
    → ((get_or sessions i d).grants ≡ own_in sessions sid) × (remove sessions i ≡ filter (λ other. not (is_session sid other)) sessions)
taken_at [] sid i d within here before apart = absurd (omega arith)
taken_at (session ∷ sessions) sid zero d within here before apart =
    let none = others_kept sid sessions (ap (λ (name : Sid). list_any (is_session name) sessions) (sym (same_sid session.sid sid here)) ∙ apart.0) in
    let found : session.grants ≡ own_in (session ∷ sessions) sid = rw here refl in
    let left : sessions ≡ filter (λ other. not (is_session sid other)) (session ∷ sessions) = rw here (sym none) in
    (found, left)
taken_at (session ∷ sessions) sid (suc i) d within here before apart =
    let first : bytes_eq session.sid sid ≡ false = before zero (omega arith) in
    let rest = taken_at sessions sid i d (omega arith) here (λ k lt. before (suc k) (omega arith)) apart.1 in
    let found : (get_or sessions i d).grants ≡ own_in (session ∷ sessions) sid = rw first rest.0 in
    let left : (session ∷ remove sessions i) ≡ filter (λ other. not (is_session sid other)) (session ∷ sessions) = rw (first, rest.1) refl in
    (found, left)

-- where no item passes a test, those that don't pass it are all
none_passes : {X : Type 0} (p : X → Bool) (xs : List X) → length xs ≤ position_or_len p xs → filter (λ x. not (p x)) xs ≡ xs
none_passes p [] h = refl
none_passes p (x ∷ xs) h =
    elim (cases_Bool (p x)) [
      | inl t ↦ let short : length (x ∷ xs) ≤ 0 = rw t at h in absurd (omega arith)
      | inr f ↦
          let short : length (x ∷ xs) ≤ 1 + position_or_len p xs = rw f at h in
          rw f (ap (λ (rest : List _). x ∷ rest) (none_passes p xs (omega arith)))
    ]

pub nowhere : {X : Type 0} (p : X → Bool) (xs : List X) → position p xs ≡ None → filter (λ x. not (p x)) xs ≡ xs
nowhere p xs h =
    elim (cases_Bool (nat_lt (position_or_len p xs) (length xs))) [
      | inl t ↦ let some : Some (position_or_len p xs) ≡ None = rw t at h in absurd cc
      | inr f ↦ none_passes p xs (grind (arith, nat_tests, f))
    ]

none_own : (sessions : List SessionView) (sid : Sid) → length sessions ≤ position_or_len (is_session sid) sessions → [] ≡ own_in sessions sid
none_own [] sid h = refl
none_own (session ∷ sessions) sid h =
    elim (cases_Bool (bytes_eq session.sid sid)) [
      | inl t ↦ let short : length (session ∷ sessions) ≤ 0 = rw t at h in absurd (omega arith)
      | inr f ↦
          let short : length (session ∷ sessions) ≤ 1 + position_or_len (is_session sid) sessions = rw f at h in
          rw f (none_own sessions sid (omega arith))
    ]

pub not_there : (sessions : List SessionView) (sid : Sid) → position (is_session sid) sessions ≡ None → [] ≡ own_in sessions sid
not_there sessions sid h =
    elim (cases_Bool (nat_lt (position_or_len (is_session sid) sessions) (length sessions))) [
      | inl t ↦ let some : Some (position_or_len (is_session sid) sessions) ≡ None = rw t at h in absurd cc
      | inr f ↦ none_own sessions sid (grind (arith, nat_tests, f))
    ]
