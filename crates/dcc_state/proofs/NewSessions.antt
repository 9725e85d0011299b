-- The change that an act is judged to make leads to the sessions that are open after it.
use Rattle.std.proofs.Common.{◌≡◌, ℕ, ◌+◌, Bool, true, false, not, ◌||◌, cond, List, [], ◌∷◌, ◌++◌, refl, sym, ap, ◌∙◌, inl, inr, filter, bytes_eq, Option, Some, None}
use Rattle.std.specs.Prelude.{find, nat_le}
use Rattle.std.specs.List.{list_any, AllByRecursion}
use Rattle.std.specs.Option.{option_or}
use Rattle.std.proofs.lemmas.Bool.{cases_Bool, or_parts}
use Rattle.std.proofs.lemmas.List.Folds.{find-append}
use Rattle.dcc_tariff.specs.Terms.{TermsView}
use Rattle.dcc_act.specs.Services.{ServiceView}
use Rattle.dcc_act.specs.declared.act.Kind.{Kind}
use Rattle.dcc_act.specs.declared.act.Kind.TheVariants as kind
use Rattle.dcc_act.specs.declared.outcome.Outcome.{Outcome}
use Rattle.dcc_act.specs.declared.outcome.RequestType.{RequestType}
use Rattle.dcc_act.specs.declared.outcome.RequestType.TheVariants as request
use Rattle.dcc_act.specs.declared.request_key.RequestKey.{RequestKey}
use Rattle.dcc_act.specs.declared.session_limit.SessionLimit.{SessionLimit}
use Rattle.dcc_act.specs.declared.session_request.SessionRequest.{SessionRequest}
use Rattle.dcc_model.specs.declared.done.Done.{Done}
use Rattle.dcc_model.specs.declared.judgement.Standing.{Standing}
use Rattle.dcc_model.specs.Outcomes.{reported, decided}
use Rattle.dcc_model.specs.Results.{succeeded, refused, answers_of}
use Rattle.dcc_model.specs.Sessions.{Sid, is_sid, session_of, opens, updates, ends, deadline, is_open, looked_at}
use Rattle.dcc_state.specs.declared.change.Change.TheVariants.{Expire}
use Rattle.dcc_session.specs.declared.held.Held.{Held}
use Rattle.dcc_state.specs.Known.{after_turn, changed}
use Rattle.dcc_state.specs.OpenSessions.{SessionView, session_at, is_session, session_in, AreApart, AreOpen, is_over_at}
use Rattle.dcc_state.specs.inner.Judged.{turn_after, change_of}
use Rattle.dcc_state.proofs.Decided.{Knows}
use Rattle.dcc_state.proofs.Finds.{find_kept, find_dropped, find_kept_all, find_dropped_all}
use Rattle.dcc_state.proofs.Names.{same_sid, sid_is_own, flipped}
use Rattle.dcc_state.proofs.NextSessions.{grants_after, quiet, expiring, going, ending, made_to_other, made_to_none}
use Rattle.dcc_state.proofs.OpenOnes.{IsAsDefined, each_is, own_is}

any_less : (sid : Sid) (p : SessionView → Bool) (sessions : List SessionView) → list_any (is_session sid) sessions ≡ false → list_any (is_session sid) (filter p sessions) ≡ false
any_less sid p [] h = refl
any_less sid p (session ∷ sessions) h =
    let parts = or_parts (bytes_eq session.sid sid) (list_any (is_session sid) sessions) h in
    elim (cases_Bool (p session)) [ inl t ↦ rw (t, parts.0) (any_less sid p sessions parts.1) | inr f ↦ rw f (any_less sid p sessions parts.1) ]

apart_still : (p : SessionView → Bool) (sessions : List SessionView) → AreApart sessions → AreApart (filter p sessions)
apart_still p [] apart = tt
apart_still p (session ∷ sessions) apart =
    elim (cases_Bool (p session)) [ inl t ↦ rw t (any_less session.sid p sessions apart.0, apart_still p sessions apart.1) | inr f ↦ rw f (apart_still p sessions apart.1) ]

abbrev pub is_other_session : Sid → SessionView → Bool
is_other_session own other = not (is_session own other)

none_left : (own : Sid) (sessions : List SessionView) → list_any (is_session own) (filter (is_other_session own) sessions) ≡ false
none_left own [] = refl
none_left own (session ∷ sessions) =
    elim (cases_Bool (bytes_eq session.sid own)) [ inl t ↦ rw t (none_left own sessions) | inr f ↦ rw (f, f) (none_left own sessions) ]

any_push : (sid : Sid) (sessions : List SessionView) (last : SessionView) → list_any (is_session sid) sessions ≡ false → bytes_eq last.sid sid ≡ false → list_any (is_session sid) (sessions ++ last ∷ []) ≡ false
any_push sid [] last h other = rw other refl
any_push sid (session ∷ sessions) last h other =
    let parts = or_parts (bytes_eq session.sid sid) (list_any (is_session sid) sessions) h in
    rw (parts.0, any_push sid sessions last parts.1 other) refl

apart_push : (sessions : List SessionView) (last : SessionView) → AreApart sessions → list_any (is_session last.sid) sessions ≡ false → AreApart (sessions ++ last ∷ [])
apart_push [] last apart h = (refl, tt)
apart_push (session ∷ sessions) last apart h =
    let parts = or_parts (bytes_eq session.sid last.sid) (list_any (is_session last.sid) sessions) h in
    (any_push session.sid sessions last apart.0 (flipped last.sid session.sid ∙ parts.0), apart_push sessions last apart.1 parts.1)

-- of the sessions but one, that one is not found, and each other as before
pub out_of : (own sid : Sid) (sessions : List SessionView) → bytes_eq own sid ≡ true → session_in (filter (is_other_session own) sessions) sid ≡ None
out_of own sid sessions t =
    find_dropped (is_session sid) (is_other_session own) sessions
    (λ session h. let same : bytes_eq session.sid own ≡ true = ap (bytes_eq session.sid) (same_sid own sid t) ∙ h in rw same refl)

pub still_in : (own sid : Sid) (sessions : List SessionView) → bytes_eq own sid ≡ false → session_in (filter (is_other_session own) sessions) sid ≡ session_in sessions sid
still_in own sid sessions f =
    find_kept (is_session sid) (is_other_session own) sessions
    (λ session h. let other : bytes_eq session.sid own ≡ false = ap (λ (name : Sid). bytes_eq name own) (same_sid session.sid sid h) ∙ flipped sid own ∙ f in rw other refl)

pub or_none : (found : Option SessionView) → option_or found None ≡ found
or_none None = refl
or_none (Some session) = refl

-- all other sessions are as they were
abbrev pub OthersStay : TermsView → List Done → Done → Sid → Type 0
OthersStay terms past done own = (sid : Sid) → bytes_eq own sid ≡ false → session_at terms (done ∷ past) sid ≡ session_at terms past sid

with_session : (terms : TermsView) (past : List Done) (done : Done) (sessions : List SessionView) (new : SessionView) → OthersStay terms past done new.sid → session_at terms (done ∷ past) new.sid ≡ Some new
    → AreOpen terms past sessions → AreOpen terms (done ∷ past) (filter (is_other_session new.sid) sessions ++ new ∷ [])
with_session terms past done sessions new others is are =
    let left = filter (is_other_session new.sid) sessions in
    record {
      found =
          λ sid.
          find-append (is_session sid) left (new ∷ [])
          ∙ elim (cases_Bool (bytes_eq new.sid sid)) [
            | inl t ↦
                rw (out_of new.sid sid sessions t, t) (sym is ∙ ap (session_at terms (done ∷ past)) (same_sid new.sid sid t))
            | inr f ↦
                let last : find (is_session sid) (new ∷ []) ≡ None = rw f refl in
                ap (option_or (session_in left sid)) last ∙ or_none (session_in left sid) ∙ still_in new.sid sid sessions f ∙ are.found sid ∙ sym (others sid f)
          ];
      apart = apart_push left new (apart_still (is_other_session new.sid) sessions are.apart) (none_left new.sid sessions);
    }

without_session : (terms : TermsView) (past : List Done) (done : Done) (sessions : List SessionView) (own : Sid) → OthersStay terms past done own → session_at terms (done ∷ past) own ≡ None
    → AreOpen terms past sessions → AreOpen terms (done ∷ past) (filter (is_other_session own) sessions)
without_session terms past done sessions own others none are = record {
  found =
      λ sid.
      elim (cases_Bool (bytes_eq own sid)) [
        | inl t ↦ out_of own sid sessions t ∙ sym none ∙ ap (session_at terms (done ∷ past)) (same_sid own sid t)
        | inr f ↦ still_in own sid sessions f ∙ are.found sid ∙ sym (others sid f)
      ];
  apart = apart_still (is_other_session own) sessions are.apart;
}

over_ones : (terms : TermsView) (past : List Done) (moment : ℕ) (sid : Sid) (some : List SessionView) → AllByRecursion (IsAsDefined terms past) some → nat_le (deadline terms past sid) moment ≡ true
    → AllByRecursion (λ (session : SessionView). is_session sid session ≡ true → not (is_over_at moment session) ≡ false) some
over_ones terms past moment sid [] are over = tt
over_ones terms past moment sid (session ∷ some) are over =
    ((λ h. ap (λ (n : ℕ). not (nat_le n moment)) (are.0.until ∙ ap (deadline terms past) (same_sid session.sid sid h)) ∙ ap not over), over_ones terms past moment sid some are.1 over)

still_ones : (terms : TermsView) (past : List Done) (moment : ℕ) (sid : Sid) (some : List SessionView) → AllByRecursion (IsAsDefined terms past) some → nat_le (deadline terms past sid) moment ≡ false
    → AllByRecursion (λ (session : SessionView). is_session sid session ≡ true → not (is_over_at moment session) ≡ true) some
still_ones terms past moment sid [] are still = tt
still_ones terms past moment sid (session ∷ some) are still =
    ((λ h. ap (λ (n : ℕ). not (nat_le n moment)) (are.0.until ∙ ap (deadline terms past) (same_sid session.sid sid h)) ∙ ap not still), still_ones terms past moment sid some are.1 still)

without_expired : (terms : TermsView) (past : List Done) (done : Done) (sessions : List SessionView) (moment : ℕ)
    → ((sid : Sid) → session_at terms (done ∷ past) sid ≡ cond (nat_le (deadline terms past sid) moment) None (session_at terms past sid))
    → AreOpen terms past sessions → AreOpen terms (done ∷ past) (changed (Expire moment) sessions)
without_expired terms past done sessions moment is are =
    let each = each_is terms past sessions are in
    record {
      found =
          λ sid.
          elim (cases_Bool (nat_le (deadline terms past sid) moment)) [
            | inl over ↦
                let gone : session_at terms (done ∷ past) sid ≡ None = is sid ∙ rw over refl in
                find_dropped_all (is_session sid) (λ other. not (is_over_at moment other)) sessions (over_ones terms past moment sid sessions each over) ∙ sym gone
            | inr still ↦
                let same : session_at terms (done ∷ past) sid ≡ session_at terms past sid = is sid ∙ rw still refl in
                find_kept_all (is_session sid) (λ other. not (is_over_at moment other)) sessions (still_ones terms past moment sid sessions each still) ∙ are.found sid ∙ sym same
          ];
      apart = apart_still (λ other. not (is_over_at moment other)) sessions are.apart;
    }

unmoved : (terms : TermsView) (past : List Done) (done : Done) (sessions : List SessionView) → ((sid : Sid) → session_at terms (done ∷ past) sid ≡ session_at terms past sid)
    → AreOpen terms past sessions → AreOpen terms (done ∷ past) sessions
unmoved terms past done sessions same are = record { found = λ sid. are.found sid ∙ sym (same sid); apart = are.apart }

-- what is accepted of a session is of one that is open
reported_open : (terms : TermsView) (past : List Done) (type : RequestType) (key : RequestKey) (services : List ServiceView) → refused (reported terms past type key services) ≡ false → is_open terms past key.sid ≡ true
reported_open terms past type key services h =
    elim (cases_Bool (is_open terms past key.sid)) [
      | inl t ↦ t
      | inr f ↦ let no : refused (reported terms past type key services) ≡ true = rw f refl in absurd cc
    ]

abbrev pub done_as : ℕ → Kind → Outcome → Done
done_as moment k outcome = record { act = record { moment = moment; kind = k }; outcome = outcome }

initial_change : (terms : TermsView) (past : List Done) (standing : Standing) (sessions : List SessionView) → Knows terms past standing sessions → (moment : ℕ) (opening : SessionRequest) (limit : SessionLimit) (host : Option (List ℕ)) (outcome : Outcome)
    → AreOpen terms (done_as moment (kind.Initial opening limit host) outcome ∷ past) (changed (change_of terms sessions moment (kind.Initial opening limit host) outcome) sessions)
initial_change terms past standing sessions knows moment opening limit host outcome =
    let done = done_as moment (kind.Initial opening limit host) outcome in
    let own = opening.key.sid in
    let services = looked_at (kind.Initial opening limit host) in
    elim (cases_Bool (succeeded outcome)) [
      | inl t ↦
          let session_is : session_of done ≡ Some own = rw t refl in
          let opened : opens done own ≡ true = rw t (sid_is_own own) in
          let now : is_open terms (done ∷ past) own ≡ true = rw opened refl in
          let moved : (opens done own || updates done own) ≡ true = rw opened refl in
          let others : OthersStay terms past done own =
          λ sid f. quiet terms past done sid (rw (t, f) refl) refl refl refl (ap (λ (o : Option Sid). is_sid o sid) session_is ∙ f) (made_to_other done own sid session_is f) in
          let new : session_at terms (done ∷ past) own ≡ Some (after_turn (turn_after terms sessions moment own services outcome) sessions) =
          going terms past done own session_is now moved refl
          ∙ ap (λ (held : List Held). Some (record { sid = own; deadline = moment + terms.hold; grants = grants_after held services (answers_of outcome) })) (sym (own_is terms past sessions knows.sound knows.sessions_are own)) in
          rw t (with_session terms past done sessions (after_turn (turn_after terms sessions moment own services outcome) sessions) others new knows.sessions_are)
      | inr f ↦
          let session_is : session_of done ≡ None = rw f refl in
          rw f (unmoved terms past done sessions
          (λ sid. quiet terms past done sid (rw f refl) refl refl refl (ap (λ (o : Option Sid). is_sid o sid) session_is) (made_to_none done sid session_is)) knows.sessions_are)
    ]

update_change : (terms : TermsView) (past : List Done) (standing : Standing) (sessions : List SessionView) → Knows terms past standing sessions → (moment : ℕ) (report : SessionRequest) (outcome : Outcome)
    → outcome ≡ reported terms past request.Update report.key (looked_at (kind.Update report))
    → AreOpen terms (done_as moment (kind.Update report) outcome ∷ past) (changed (change_of terms sessions moment (kind.Update report) outcome) sessions)
update_change terms past standing sessions knows moment report outcome is =
    let done = done_as moment (kind.Update report) outcome in
    let own = report.key.sid in
    let services = looked_at (kind.Update report) in
    elim (cases_Bool (refused outcome)) [
      | inl t ↦
          let session_is : session_of done ≡ None = rw t refl in
          rw t (unmoved terms past done sessions
          (λ sid. quiet terms past done sid refl (rw t refl) refl refl (ap (λ (o : Option Sid). is_sid o sid) session_is) (made_to_none done sid session_is)) knows.sessions_are)
      | inr f ↦
          let session_is : session_of done ≡ Some own = rw f refl in
          let updated : updates done own ≡ true = rw f (sid_is_own own) in
          let was : is_open terms past own ≡ true = reported_open terms past request.Update report.key services (ap refused (sym is) ∙ f) in
          let others : OthersStay terms past done own =
          λ sid g. quiet terms past done sid refl (rw (f, g) refl) refl refl (ap (λ (o : Option Sid). is_sid o sid) session_is ∙ g) (made_to_other done own sid session_is g) in
          elim (cases_Bool (succeeded outcome)) [
            | inl s ↦
                let unended : ends terms past done own ≡ false = rw (updated, s) refl in
                let now : is_open terms (done ∷ past) own ≡ true = rw (was, unended) refl in
                let moved : (opens done own || updates done own) ≡ true = rw updated refl in
                let new : session_at terms (done ∷ past) own ≡ Some (after_turn (turn_after terms sessions moment own services outcome) sessions) =
                going terms past done own session_is now moved unended
                ∙ ap (λ (held : List Held). Some (record { sid = own; deadline = moment + terms.hold; grants = grants_after held services (answers_of outcome) })) (sym (own_is terms past sessions knows.sound knows.sessions_are own)) in
                rw (f, s) (with_session terms past done sessions (after_turn (turn_after terms sessions moment own services outcome) sessions) others new knows.sessions_are)
            | inr g ↦
                let ended : ends terms past done own ≡ true = rw (updated, g) refl in
                rw (f, g) (without_session terms past done sessions own others (ending terms past done own refl ended) knows.sessions_are)
          ]
    ]

termination_change : (terms : TermsView) (past : List Done) (standing : Standing) (sessions : List SessionView) → Knows terms past standing sessions → (moment : ℕ) (report : SessionRequest) (outcome : Outcome)
    → AreOpen terms (done_as moment (kind.Termination report) outcome ∷ past) (changed (change_of terms sessions moment (kind.Termination report) outcome) sessions)
termination_change terms past standing sessions knows moment report outcome =
    let done = done_as moment (kind.Termination report) outcome in
    let own = report.key.sid in
    elim (cases_Bool (refused outcome)) [
      | inl t ↦
          let session_is : session_of done ≡ None = rw t refl in
          rw t (unmoved terms past done sessions
          (λ sid. quiet terms past done sid refl refl (rw t refl) refl (ap (λ (o : Option Sid). is_sid o sid) session_is) (made_to_none done sid session_is)) knows.sessions_are)
      | inr f ↦
          let session_is : session_of done ≡ Some own = rw f refl in
          let others : OthersStay terms past done own =
          λ sid g. quiet terms past done sid refl refl (rw (f, g) refl) refl (ap (λ (o : Option Sid). is_sid o sid) session_is ∙ g) (made_to_other done own sid session_is g) in
          let ended : ends terms past done own ≡ true = rw (f, sid_is_own own) refl in
          rw f (without_session terms past done sessions own others (ending terms past done own refl ended) knows.sessions_are)
    ]

-- the sessions after what an act comes to are those that are open
pub change_is : (terms : TermsView) (past : List Done) (standing : Standing) (sessions : List SessionView) → Knows terms past standing sessions → (moment : ℕ) (k : Kind) (outcome : Outcome)
    → outcome ≡ decided terms past moment k → AreOpen terms (done_as moment k outcome ∷ past) (changed (change_of terms sessions moment k outcome) sessions)
change_is terms past standing sessions knows moment (kind.TopUp top_up) outcome is =
    unmoved terms past (done_as moment (kind.TopUp top_up) outcome) sessions
    (λ sid. quiet terms past (done_as moment (kind.TopUp top_up) outcome) sid refl refl refl refl refl refl) knows.sessions_are
change_is terms past standing sessions knows moment (kind.Initial opening limit host) outcome is = initial_change terms past standing sessions knows moment opening limit host outcome
change_is terms past standing sessions knows moment (kind.Update report) outcome is = update_change terms past standing sessions knows moment report outcome is
change_is terms past standing sessions knows moment (kind.Termination report) outcome is = termination_change terms past standing sessions knows moment report outcome
change_is terms past standing sessions knows moment (kind.Event event) outcome is =
    unmoved terms past (done_as moment (kind.Event event) outcome) sessions
    (λ sid. quiet terms past (done_as moment (kind.Event event) outcome) sid refl refl refl refl refl refl) knows.sessions_are
change_is terms past standing sessions knows moment kind.Expiry outcome is =
    without_expired terms past (done_as moment kind.Expiry outcome) sessions moment
    (λ sid. expiring terms past (done_as moment kind.Expiry outcome) sid refl refl refl refl refl refl) knows.sessions_are
