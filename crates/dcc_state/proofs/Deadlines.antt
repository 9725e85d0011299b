-- The deadlines of the sessions that are open, and how a change of these changes them.
use Rattle.std.proofs.Common.{◌≡◌, ◌<◌, ℕ, false, not, cond, List, [], ◌∷◌, ◌++◌, refl, sym, ap, ◌∙◌, inl, inr, filter, count_by, bytes_eq, nat_le, Option, Some, None, arith}
use Rattle.std.specs.Prelude.{find, option_map, is_some, IfSome}
use Rattle.std.specs.List.{list_any, AllByRecursion}
use Rattle.std.specs.Option.{option_or}
use Rattle.std.proofs.lemmas.Bool.{cases_Bool}
use Rattle.std.proofs.lemmas.Bool.Decides.{nat_tests}
use Rattle.std.proofs.lemmas.List.Folds.{find-append}
use Rattle.std.proofs.lemmas.List.Sums.{sum_by-cons}
use Rattle.dcc_expiry.specs.Deadlines.{DueView, deadline_of, later_than}
use Rattle.dcc_model.specs.Sessions.{Sid}
use Rattle.dcc_state.specs.declared.change.Turn.{Turn}
use Rattle.dcc_state.specs.declared.change.Change.TheVariants.{Open}
use Rattle.dcc_state.specs.Known.{after_turn, changed}
use Rattle.dcc_state.specs.OpenSessions.{SessionView, is_session, session_in, deadline_at, AreApart, KeepsDeadlines, is_over_at}
use Rattle.dcc_state.proofs.Finds.{find_nowhere}
use Rattle.dcc_state.proofs.Names.{same_sid, weight}
use Rattle.dcc_state.proofs.NewSessions.{out_of, still_in, or_none}
use Rattle.dcc_state.proofs.OpenOnes.{each_found, found_any}

-- the deadline of a session that is found
abbrev pub until_of : Option SessionView → Option ℕ
until_of found = option_map (λ (session : SessionView). session.deadline) found

-- a session that goes on has its new deadline, and every other one its own
after_opening : (new : SessionView) (sessions : List SessionView) (sid : Sid)
    → deadline_at (filter (λ other. not (is_session new.sid other)) sessions ++ new ∷ []) sid ≡ cond (bytes_eq new.sid sid) (Some new.deadline) (deadline_at sessions sid)
after_opening new sessions sid =
    let left = filter (λ other. not (is_session new.sid other)) sessions in
    ap until_of (find-append (is_session sid) left (new ∷ []))
    ∙ elim (cases_Bool (bytes_eq new.sid sid)) [
      | inl t ↦ rw (out_of new.sid sid sessions t, t) refl
      | inr f ↦
          let last : find (is_session sid) (new ∷ []) ≡ None = rw f refl in
          ap (λ (found : Option SessionView). until_of (option_or (session_in left sid) found)) last ∙ ap until_of (or_none (session_in left sid) ∙ still_in new.sid sid sessions f) ∙ rw f refl
    ]

pub kept_open : (before after : DueView) (turn : Turn) (sessions : List SessionView) → KeepsDeadlines before sessions
    → ((other : Sid) → deadline_of after other ≡ cond (bytes_eq turn.sid other) (Some turn.deadline) (deadline_of before other)) → KeepsDeadlines after (changed (Open turn) sessions)
kept_open before after turn sessions kept set =
    λ sid. set sid ∙ ap (cond (bytes_eq turn.sid sid) (Some turn.deadline)) (kept sid) ∙ sym (after_opening (after_turn turn sessions) sessions sid)

-- a session that ends has none
pub kept_end : (before after : DueView) (own : Sid) (sessions : List SessionView) → KeepsDeadlines before sessions
    → ((other : Sid) → deadline_of after other ≡ cond (bytes_eq own other) None (deadline_of before other)) → KeepsDeadlines after (filter (λ other. not (is_session own other)) sessions)
kept_end before after own sessions kept cleared = λ sid.
    cleared sid ∙ elim (cases_Bool (bytes_eq own sid)) [
      | inl t ↦ rw t (sym (ap until_of (out_of own sid sessions t)))
      | inr f ↦ rw f (kept sid ∙ sym (ap until_of (still_in own sid sessions f)))
    ]

found_none : (found : Option SessionView) → is_some found ≡ false → found ≡ None
found_none None h = refl
found_none (Some session) h = absurd cc

-- of sessions with names of their own, those that are left whose time isn't over
after_expiry : (moment : ℕ) (sessions : List SessionView) (sid : Sid) → AreApart sessions
    → deadline_at (filter (λ other. not (is_over_at moment other)) sessions) sid ≡ later_than moment (deadline_at sessions sid)
after_expiry moment [] sid apart = refl
after_expiry moment (session ∷ sessions) sid apart =
    let rest = after_expiry moment sessions sid apart.1 in
    elim (cases_Bool (bytes_eq session.sid sid)) [
      | inl t ↦ elim (cases_Bool (nat_le session.deadline moment)) [
        | inl over ↦
            let none : session_in sessions sid ≡ None = found_none (session_in sessions sid) (found_any sessions sid ∙ ap (λ (name : Sid). list_any (is_session name) sessions) (sym (same_sid session.sid sid t)) ∙ apart.0) in
            rw (t, over) (ap until_of (find_nowhere (is_session sid) (λ other. not (is_over_at moment other)) sessions none))
        | inr still ↦ rw (t, still) (rw t refl)
      ]
      | inr f ↦ elim (cases_Bool (nat_le session.deadline moment)) [ inl over ↦ rw (f, over) rest | inr still ↦ rw (f, still) (rw f rest) ]
    ]

pub kept_expire : (before after : DueView) (moment : ℕ) (sessions : List SessionView) → AreApart sessions → KeepsDeadlines before sessions
    → ((sid : Sid) → deadline_of after sid ≡ later_than moment (deadline_of before sid)) → KeepsDeadlines after (filter (λ other. not (is_over_at moment other)) sessions)
kept_expire before after moment sessions apart kept cleared = λ sid.
    cleared sid ∙ ap (later_than moment) (kept sid) ∙ sym (after_expiry moment sessions sid apart)

-- where each deadline is later than a moment, no session is over then
none_of : (due : DueView) (moment : ℕ) (whole some : List SessionView) → KeepsDeadlines due whole → ((sid : Sid) → IfSome (deadline_of due sid) (λ until. moment < until))
    → AllByRecursion (λ (session : SessionView). session_in whole session.sid ≡ Some session) some → count_by (is_over_at moment) some ≡ 0
none_of due moment whole [] kept later found = refl
none_of due moment whole (session ∷ some) kept later found =
    let rest = none_of due moment whole some kept later found.1 in
    let own : deadline_of due session.sid ≡ Some session.deadline = kept session.sid ∙ ap until_of found.0 in
    let until : moment < session.deadline = rw own at (later session.sid) in
    let still : is_over_at moment session ≡ false = grind (arith, nat_tests, until) in
    let more = sum_by-cons (λ (s : SessionView). cond (is_over_at moment s) 1 0) session some in
    let here : weight (is_over_at moment) session ≡ 0 = rw still refl in
    omega arith

pub none_over : (due : DueView) (moment : ℕ) (sessions : List SessionView) → AreApart sessions → KeepsDeadlines due sessions
    → ((sid : Sid) → IfSome (deadline_of due sid) (λ until. moment < until)) → count_by (is_over_at moment) sessions ≡ 0
none_over due moment sessions apart kept later = none_of due moment sessions sessions kept later (each_found sessions apart)
