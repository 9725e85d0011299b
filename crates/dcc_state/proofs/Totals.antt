-- What sessions hold together is what is reserved.
use Rattle.std.proofs.Common.{◌≡◌, ℕ, ◌+◌, true, false, not, cond, List, [], ◌∷◌, map, refl, sym, ap, ◌∙◌, inl, inr, filter, sum_by, bytes_eq, arith}
use Rattle.std.specs.List.{list_any, AllByRecursion}
use Rattle.std.proofs.lemmas.Bool.{cases_Bool, or_parts}
use Rattle.std.proofs.lemmas.List.Sums.{sum_by-cons}
use Rattle.dcc_tariff.specs.Terms.{TermsView}
use Rattle.dcc_model.specs.declared.done.Done.{Done}
use Rattle.dcc_model.specs.Money.{grant_price, held_price, reserved_of}
use Rattle.dcc_model.specs.Sessions.{Sid, Live, is_open, lives}
use Rattle.dcc_session.specs.declared.held.Held.{Held}
use Rattle.dcc_session.specs.Grants.{prices}
use Rattle.dcc_state.specs.Known.{prices_of}
use Rattle.dcc_state.specs.OpenSessions.{SessionView, held_of, is_of, is_session, AreApart, AreOpen, own_in}
use Rattle.dcc_state.proofs.Finds.{sums_alike}
use Rattle.dcc_state.proofs.Names.{same_sid}
use Rattle.dcc_state.proofs.OpenOnes.{IsAsDefined, each_is, open_is, found_any}

none_sum : (sid : Sid) (n : ℕ) (sessions : List SessionView) → list_any (is_session sid) sessions ≡ false → sum_by (λ (s : SessionView). cond (bytes_eq s.sid sid) n 0) sessions ≡ 0
none_sum sid n [] h = refl
none_sum sid n (session ∷ sessions) h =
    let parts = or_parts (bytes_eq session.sid sid) (list_any (is_session sid) sessions) h in
    let rest = none_sum sid n sessions parts.1 in
    rw (sum_by-cons (λ (s : SessionView). cond (bytes_eq s.sid sid) n 0) session sessions, parts.0, rest) refl

-- an amount of one session is counted once
once_sum : (sid : Sid) (n : ℕ) (sessions : List SessionView) → AreApart sessions → list_any (is_session sid) sessions ≡ true
    → sum_by (λ (s : SessionView). cond (bytes_eq s.sid sid) n 0) sessions ≡ n
once_sum sid n [] apart h = absurd cc
once_sum sid n (session ∷ sessions) apart h =
    let more = sum_by-cons (λ (s : SessionView). cond (bytes_eq s.sid sid) n 0) session sessions in
    elim (cases_Bool (bytes_eq session.sid sid)) [
      | inl t ↦
          let none = none_sum sid n sessions (ap (λ (name : Sid). list_any (is_session name) sessions) (sym (same_sid session.sid sid t)) ∙ apart.0) in
          rw (more, t, none) (omega arith)
      | inr f ↦ let rest = once_sum sid n sessions apart.1 (rw f at h) in rw (more, f, rest) (omega arith)
    ]

abbrev pub own_prices : List Live → SessionView → ℕ
own_prices all session = prices (map held_of (filter (is_of session.sid) all))

zeros : (sessions : List SessionView) → sum_by (own_prices []) sessions ≡ 0
zeros [] = refl
zeros (session ∷ sessions) = rw (sum_by-cons (own_prices []) session sessions, zeros sessions) refl

plus : (f g : SessionView → ℕ) (sessions : List SessionView) → sum_by (λ s. f s + g s) sessions ≡ sum_by f sessions + sum_by g sessions
plus f g [] = refl
plus f g (session ∷ sessions) = rw (sum_by-cons (λ s. f s + g s) session sessions, sum_by-cons f session sessions, sum_by-cons g session sessions, plus f g sessions) (omega arith)

one_held : (held : Live) (all : List Live) (session : SessionView) → own_prices (held ∷ all) session ≡ cond (bytes_eq session.sid held.sid) (held_price held) 0 + own_prices all session
one_held held all session =
    elim (cases_Bool (bytes_eq session.sid held.sid)) [
      | inl t ↦ rw t (sum_by-cons (λ (h : Held). grant_price h.grant) (held_of held) (map held_of (filter (is_of session.sid) all)))
      | inr f ↦ rw f (omega arith)
    ]

total : (sessions : List SessionView) → AreApart sessions → (all : List Live) → AllByRecursion (λ (held : Live). list_any (is_session held.sid) sessions ≡ true) all
    → sum_by (own_prices all) sessions ≡ sum_by held_price all
total sessions apart [] are = zeros sessions
total sessions apart (held ∷ all) are =
    let of_one : SessionView → ℕ = λ s. cond (bytes_eq s.sid held.sid) (held_price held) 0 in
    sums_alike (own_prices (held ∷ all)) (λ s. of_one s + own_prices all s) (one_held held all) sessions
    ∙ plus of_one (own_prices all) sessions
    ∙ ap (λ (n : ℕ). n + sum_by (own_prices all) sessions) (once_sum held.sid (held_price held) sessions apart are.0)
    ∙ ap (λ (n : ℕ). held_price held + n) (total sessions apart all are.1)
    ∙ sym (sum_by-cons held_price held all)

as_defined : (terms : TermsView) (past : List Done) (sessions : List SessionView) → AllByRecursion (IsAsDefined terms past) sessions
    → sum_by prices_of sessions ≡ sum_by (own_prices (lives terms past)) sessions
as_defined terms past [] are = refl
as_defined terms past (session ∷ sessions) are =
    sum_by-cons prices_of session sessions
    ∙ ap (λ (grants : List Held). prices grants + sum_by prices_of sessions) are.0.holds
    ∙ ap (λ (n : ℕ). own_prices (lives terms past) session + n) (as_defined terms past sessions are.1)
    ∙ sym (sum_by-cons (own_prices (lives terms past)) session sessions)

each_kept : (terms : TermsView) (past : List Done) (sessions : List SessionView) → AreOpen terms past sessions → (all : List Live) → AllByRecursion (λ (held : Live). is_open terms past held.sid ≡ true) all
    → AllByRecursion (λ (held : Live). list_any (is_session held.sid) sessions ≡ true) all
each_kept terms past sessions are [] open_ones = tt
each_kept terms past sessions are (held ∷ all) open_ones =
    (sym (found_any sessions held.sid) ∙ open_is terms past sessions are held.sid ∙ open_ones.0, each_kept terms past sessions are all open_ones.1)

-- what is reserved is what the open sessions hold
pub held_is : (terms : TermsView) (past : List Done) (sessions : List SessionView) → AllByRecursion (λ (held : Live). is_open terms past held.sid ≡ true) (lives terms past) → AreOpen terms past sessions
    → sum_by prices_of sessions ≡ reserved_of terms past
held_is terms past sessions open_ones are =
    as_defined terms past sessions (each_is terms past sessions are)
    ∙ total sessions are.apart (lives terms past) (each_kept terms past sessions are (lives terms past) open_ones)

pub others_kept : (sid : Sid) (sessions : List SessionView) → list_any (is_session sid) sessions ≡ false → filter (λ other. not (is_session sid other)) sessions ≡ sessions
others_kept sid [] h = refl
others_kept sid (session ∷ sessions) h =
    let parts = or_parts (bytes_eq session.sid sid) (list_any (is_session sid) sessions) h in
    rw (parts.0, others_kept sid sessions parts.1) refl

-- a session that is taken out takes with it what it holds
pub taken_out : (sid : Sid) (sessions : List SessionView) → AreApart sessions
    → sum_by prices_of (filter (λ other. not (is_session sid other)) sessions) + prices (own_in sessions sid) ≡ sum_by prices_of sessions
taken_out sid [] apart = refl
taken_out sid (session ∷ sessions) apart =
    let more = sum_by-cons prices_of session sessions in
    elim (cases_Bool (bytes_eq session.sid sid)) [
      | inl t ↦
          let all = others_kept sid sessions (ap (λ (name : Sid). list_any (is_session name) sessions) (sym (same_sid session.sid sid t)) ∙ apart.0) in
          rw (t, all, more) (omega arith)
      | inr f ↦
          let rest = taken_out sid sessions apart.1 in
          let left = sum_by-cons prices_of session (filter (λ other. not (is_session sid other)) sessions) in
          rw (f, more, left) (omega arith)
    ]
