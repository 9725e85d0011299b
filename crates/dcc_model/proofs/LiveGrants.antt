-- A service's live grant, by a look back, is the one that all live grants have for its session and its key.
use Rattle.std.proofs.Common.{◌≡◌, ℕ, Bool, true, false, not, ◌&&◌, ◌||◌, List, [], ◌∷◌, map, reverse, refl, sym, ap, subst, ◌∙◌, inl, inr, ◌⊎◌, filter, filter_map, bytes_eq, Option, Some, None, is_some, is_none, option_map}
use Rattle.std.specs.Prelude.{find, unwrap_or}
use Rattle.std.specs.List.{list_any, cons_option}
use Rattle.std.specs.Option.{option_and_then, option_or}
use Rattle.std.proofs.lemmas.Bool.{cases_Bool, and_parts, not-true, or_parts}
use Rattle.std.proofs.Math.Bool.{or-true}
use Rattle.std.proofs.lemmas.List.Folds.{find-append}
use Rattle.dcc_tariff.specs.Terms.{TermsView}
use Rattle.dcc_act.specs.Answers.{answer_key}
use Rattle.dcc_act.specs.ServiceKeys.{same_service, are_apart}
use Rattle.dcc_act.specs.Services.{ServiceView, service_key}
use Rattle.dcc_act.specs.declared.act.Act.{Act}
use Rattle.dcc_act.specs.declared.act.Kind.{Kind}
use Rattle.dcc_act.specs.declared.act.Kind.TheVariants as kind
use Rattle.dcc_act.specs.declared.grant.Grant.{Grant}
use Rattle.dcc_act.specs.declared.outcome.Outcome.{Outcome}
use Rattle.dcc_act.specs.declared.outcome.ServiceAnswer.{ServiceAnswer}
use Rattle.dcc_act.specs.declared.service_key.ServiceKey.{ServiceKey}
use Rattle.dcc_act.specs.declared.session_limit.SessionLimit.{SessionLimit}
use Rattle.dcc_act.specs.declared.session_request.SessionRequest.{SessionRequest}
use Rattle.dcc_model.specs.declared.done.Done.{Done}
use Rattle.dcc_model.specs.Results.{succeeded, refused, answers_of}
use Rattle.dcc_model.specs.Sessions.{Sid, Live, is_sid, opens_by, session_of, opens, ends, is_open, was_opened, named, is_named, looked_at, names, made, last_grant, live, live_of, made_by, goes_on, lives}
use Rattle.dcc_model.specs.Outcomes.{answers, decided, is_made, history}
use Rattle.dcc_model.specs.Laws.{services_of, AreKeyed, is_at, LiveIsFound}
use Rattle.dcc_model.proofs.Histories.{judged_new}
use Rattle.dcc_model.proofs.Funds.{done_as}
use Rattle.dcc_model.proofs.Grants.{same_service-true, same_sid, sid_is_own, stays_at}
use Rattle.dcc_model.proofs.Escrow.{apart_parts}
use Rattle.dcc_model.proofs.EscrowLaw.{begun_served, reported_served, keys_looked_at, all_reverse}
use Rattle.dcc_model.proofs.OpenSessions.{Opens, opens_what_may, own_sid, apart_both_ways, open_before}
use Rattle.dcc_model.proofs.Lives.{AllSuit, answers_suit, no_grant, AllAreOpen, decided_open, history_live}

abbrev pub grant_of : Live → Grant
grant_of held = held.grant

-- what passes the second test wherever it passes the first is found as before
find_kept : {X : Type 0} (p q : X → Bool) (xs : List X) → ((x : X) → p x ≡ true → q x ≡ true) → find p (filter q xs) ≡ find p xs
find_kept p q [] both = refl
find_kept p q (x ∷ xs) both =
    let rest = find_kept p q xs both in
    elim (cases_Bool (p x)) [
      | inl t ↦ let kept = both x t in rw (kept, t) refl
      | inr f ↦ elim (cases_Bool (q x)) [ inl t ↦ rw (t, f) rest | inr g ↦ rw (g, f) rest ]
    ]

find_dropped : {X : Type 0} (p q : X → Bool) (xs : List X) → ((x : X) → p x ≡ true → q x ≡ false) → find p (filter q xs) ≡ None
find_dropped p q [] apart = refl
find_dropped p q (x ∷ xs) apart =
    let rest = find_dropped p q xs apart in
    elim (cases_Bool (p x)) [
      | inl t ↦ let dropped = apart x t in rw dropped rest
      | inr f ↦ elim (cases_Bool (q x)) [ inl t ↦ rw (t, f) rest | inr g ↦ rw g rest ]
    ]

find_nowhere : {X : Type 0} (p q : X → Bool) (xs : List X) → find p xs ≡ None → find p (filter q xs) ≡ None
find_nowhere p q [] none = refl
find_nowhere p q (x ∷ xs) none =
    elim (cases_Bool (p x)) [
      | inl t ↦ let found : find p (x ∷ xs) ≡ Some x = rw t refl in absurd cc
      | inr f ↦
          let rest = find_nowhere p q xs (rw f at none) in
          elim (cases_Bool (q x)) [ inl t ↦ rw (t, f) rest | inr g ↦ rw g rest ]
    ]

-- no live grant is of a session that isn't open
none_shut : (terms : TermsView) (past : List Done) (sid : Sid) (key : ServiceKey) (helds : List Live) → AllAreOpen terms past helds → is_open terms past sid ≡ false
    → find (is_at sid key) helds ≡ None
none_shut terms past sid key [] all shut = refl
none_shut terms past sid key (held ∷ helds) all shut =
    let rest = none_shut terms past sid key helds all.1 shut in
    elim (cases_Bool (is_at sid key held)) [
      | inl t ↦
          let p = and_parts (bytes_eq sid held.sid) (same_service held.key key) t in
          let now : is_open terms past sid ≡ true = ap (is_open terms past) (same_sid sid held.sid p.0) ∙ all.0 in
          absurd cc
      | inr f ↦ rw f rest
    ]

same_both_ways : (a b : ServiceKey) → same_service a b ≡ false → same_service b a ≡ false
same_both_ways a b h =
    elim (cases_Bool (same_service b a)) [
      | inl t ↦
          let e = same_service-true b a t in
          let turned : same_service a b ≡ true = ap (same_service a) e ∙ ap (λ (k : ServiceKey). same_service k a) (sym e) ∙ t in
          absurd cc
      | inr f ↦ f
    ]

-- a grant at another key is passed over
skip_other : (sid : Sid) (key : ServiceKey) (answer : ServiceAnswer) (grant : Option Grant) (rest : List Live) → same_service (answer_key answer) key ≡ false
    → find (is_at sid key) (cons_option (option_map (λ grant. record { sid = sid; key = answer_key answer; grant = grant }) grant) rest) ≡ find (is_at sid key) rest
skip_other sid key answer None rest other = refl
skip_other sid key answer (Some grant) rest other = rw (sid_is_own sid, other) refl

-- where no answer has a key, no grant has it
none_of_key : (sid : Sid) (key : ServiceKey) (made : List ServiceAnswer) → list_any (same_service key) (map answer_key made) ≡ false → find (is_at sid key) (filter_map (live_of sid) made) ≡ None
none_of_key sid key [] none = refl
none_of_key sid key (answer ∷ made) none =
    let parts = or_parts (same_service key (answer_key answer)) (list_any (same_service key) (map answer_key made)) none in
    skip_other sid key answer answer.grant (filter_map (live_of sid) made) (same_both_ways key (answer_key answer) parts.0) ∙ none_of_key sid key made parts.1

found_first : (sid : Sid) (key : ServiceKey) (answer : ServiceAnswer) (grant : Option Grant) (rest : List Live) → same_service (answer_key answer) key ≡ true → find (is_at sid key) rest ≡ None
    → option_map grant_of (find (is_at sid key) (cons_option (option_map (λ grant. record { sid = sid; key = answer_key answer; grant = grant }) grant) rest)) ≡ grant
found_first sid key answer None rest same none = ap (option_map grant_of) none
found_first sid key answer (Some grant) rest same none = rw (sid_is_own sid, same) refl

-- the grant that the answers made to a service is the one of its key among those that they made
pub made_found : (sid : Sid) (key : ServiceKey) (made : List ServiceAnswer) → are_apart (map answer_key made) ≡ true
    → option_map grant_of (find (is_at sid key) (filter_map (live_of sid) made))
    ≡ option_and_then (λ (answer : ServiceAnswer). answer.grant) (find (λ answer. same_service (answer_key answer) key) made)
made_found sid key [] apart = refl
made_found sid key (answer ∷ made) apart =
    let parts = apart_parts (answer_key answer) (map answer_key made) apart in
    elim (cases_Bool (same_service (answer_key answer) key)) [
      | inl t ↦
          let keys = same_service-true (answer_key answer) key t in
          let alone : list_any (same_service key) (map answer_key made) ≡ false = ap (λ (k : ServiceKey). list_any (same_service k) (map answer_key made)) (sym keys) ∙ parts.0 in
          let first = found_first sid key answer answer.grant (filter_map (live_of sid) made) t (none_of_key sid key made alone) in
          rw t first
      | inr f ↦
          let skipped = ap (option_map grant_of) (skip_other sid key answer answer.grant (filter_map (live_of sid) made) f) in
          rw f (skipped ∙ made_found sid key made parts.1)
    ]

-- an act that serves a session answers its services in order, each under a key of its own
pub record Serves (done : Done) : Type 0 where
  pub suit : (sid : Sid) → session_of done ≡ Some sid → AllSuit (looked_at done.act.kind) (answers_of done.outcome)
  pub apart : are_apart (map service_key (looked_at done.act.kind)) ≡ true

-- an act that came to this serves no session, or what it served was answered
abbrev ServedOr : TermsView → List Done → ℕ → Kind → Outcome → Sid → Type 0
ServedOr terms past moment k outcome own =
    (answers_of outcome ≡ answers terms past own (looked_at k) [] (looked_at k)) ⊎ (session_of (done_as moment k outcome) ≡ None)

served_suit : (terms : TermsView) (past : List Done) (moment : ℕ) (k : Kind) (outcome : Outcome) (own sid : Sid) → ServedOr terms past moment k outcome own
    → session_of (done_as moment k outcome) ≡ Some sid → AllSuit (looked_at k) (answers_of outcome)
served_suit terms past moment k outcome own sid (inl are) is = subst (AllSuit (looked_at k)) (sym are) (answers_suit terms past own (looked_at k) [] (looked_at k))
served_suit terms past moment k outcome own sid (inr none) is = absurd cc

initial_served : (terms : TermsView) (past : List Done) (moment : ℕ) (opening : SessionRequest) (limit : SessionLimit) (host : Option (List ℕ)) (outcome : Outcome)
    → (answers_of outcome ≡ answers terms past opening.key.sid (looked_at (kind.Initial opening limit host)) [] (looked_at (kind.Initial opening limit host))) ⊎ (succeeded outcome ≡ false)
    → ServedOr terms past moment (kind.Initial opening limit host) outcome opening.key.sid
initial_served terms past moment opening limit host outcome (inl are) = inl are
initial_served terms past moment opening limit host outcome (inr f) = inr (rw f refl)

update_served : (terms : TermsView) (past : List Done) (moment : ℕ) (report : SessionRequest) (outcome : Outcome)
    → (answers_of outcome ≡ answers terms past report.key.sid (looked_at (kind.Update report)) [] (looked_at (kind.Update report))) ⊎ (refused outcome ≡ true)
    → ServedOr terms past moment (kind.Update report) outcome report.key.sid
update_served terms past moment report outcome (inl are) = inl are
update_served terms past moment report outcome (inr t) = inr (rw t refl)

termination_served : (terms : TermsView) (past : List Done) (moment : ℕ) (report : SessionRequest) (outcome : Outcome)
    → (answers_of outcome ≡ answers terms past report.key.sid (looked_at (kind.Termination report)) [] (looked_at (kind.Termination report))) ⊎ (refused outcome ≡ true)
    → ServedOr terms past moment (kind.Termination report) outcome report.key.sid
termination_served terms past moment report outcome (inl are) = inl are
termination_served terms past moment report outcome (inr t) = inr (rw t refl)

decided_suit : (terms : TermsView) (past : List Done) (moment : ℕ) (k : Kind) (sid : Sid) → session_of (done_as moment k (decided terms past moment k)) ≡ Some sid
    → AllSuit (looked_at k) (answers_of (decided terms past moment k))
decided_suit terms past moment (kind.TopUp top_up) sid is = absurd cc
decided_suit terms past moment (kind.Initial opening limit host) sid is =
    let outcome = decided terms past moment (kind.Initial opening limit host) in
    served_suit terms past moment (kind.Initial opening limit host) outcome opening.key.sid sid
    (initial_served terms past moment opening limit host outcome (begun_served terms past opening.key limit (looked_at (kind.Initial opening limit host)))) is
decided_suit terms past moment (kind.Update report) sid is =
    let outcome = decided terms past moment (kind.Update report) in
    served_suit terms past moment (kind.Update report) outcome report.key.sid sid
    (update_served terms past moment report outcome (reported_served terms past _ report.key (looked_at (kind.Update report)))) is
decided_suit terms past moment (kind.Termination report) sid is =
    let outcome = decided terms past moment (kind.Termination report) in
    served_suit terms past moment (kind.Termination report) outcome report.key.sid sid
    (termination_served terms past moment report outcome (reported_served terms past _ report.key (looked_at (kind.Termination report)))) is
decided_suit terms past moment (kind.Event event) sid is = absurd cc
decided_suit terms past moment kind.Expiry sid is = absurd cc

decided_serves : (terms : TermsView) (past : List Done) (moment : ℕ) (k : Kind) → are_apart (map service_key (services_of k)) ≡ true → Serves (done_as moment k (decided terms past moment k))
decided_serves terms past moment k keyed = record { suit = decided_suit terms past moment k; apart = ap are_apart (keys_looked_at k) ∙ keyed }

keys_answered : (services : List ServiceView) (made : List ServiceAnswer) → AllSuit services made → map answer_key made ≡ map service_key services
keys_answered [] [] suit = refl
keys_answered [] (answer ∷ made) suit = absurd suit
keys_answered (service ∷ services) [] suit = absurd suit
keys_answered (service ∷ services) (answer ∷ made) suit =
    ap (λ (key : ServiceKey). key ∷ map answer_key made) suit.0.key ∙ ap (λ (keys : List ServiceKey). service_key service ∷ keys) (keys_answered services made suit.1)

asks : (asked used : Option ℕ) → is_none asked ≡ false → (is_some asked || is_some used) ≡ true
asks None used h = absurd cc
asks (Some units) used h = refl

named_first : (key : ServiceKey) (service : ServiceView) (services : List ServiceView) → is_named service ≡ true → list_any (same_service key) (named (service ∷ services)) ≡ false
    → same_service key (service_key service) ≡ false
named_first key service services t h =
    let keys : named (service ∷ services) ≡ service_key service ∷ named services = rw t refl in
    (or_parts (same_service key (service_key service)) (list_any (same_service key) (named services)) (ap (list_any (same_service key)) (sym keys) ∙ h)).0

named_rest : (key : ServiceKey) (service : ServiceView) (services : List ServiceView) → list_any (same_service key) (named (service ∷ services)) ≡ false
    → list_any (same_service key) (named services) ≡ false
named_rest key service services h =
    elim (cases_Bool (is_named service)) [
      | inl t ↦
          let keys : named (service ∷ services) ≡ service_key service ∷ named services = rw t refl in
          (or_parts (same_service key (service_key service)) (list_any (same_service key) (named services)) (ap (list_any (same_service key)) (sym keys) ∙ h)).1
      | inr f ↦ let keys : named (service ∷ services) ≡ named services = rw f refl in ap (list_any (same_service key)) (sym keys) ∙ h
    ]

-- what a request grants it names
none_unnamed : (sid : Sid) (key : ServiceKey) (services : List ServiceView) (made : List ServiceAnswer) → AllSuit services made → list_any (same_service key) (named services) ≡ false
    → find (is_at sid key) (filter_map (live_of sid) made) ≡ None
none_unnamed sid key [] [] suit unnamed = refl
none_unnamed sid key [] (answer ∷ made) suit unnamed = absurd suit
none_unnamed sid key (service ∷ services) [] suit unnamed = absurd suit
none_unnamed sid key (service ∷ services) (answer ∷ made) suit unnamed =
    let rest = none_unnamed sid key services made suit.1 (named_rest key service services unnamed) in
    let later = filter_map (live_of sid) made in
    elim suit.0.grants [
      | inl ungranted ↦ ap (find (is_at sid key)) (no_grant answer.grant answer sid later ungranted) ∙ rest
      | inr both ↦
          let apart = named_first key service services (asks service.asked service.used both.1) unnamed in
          let other : same_service key (answer_key answer) ≡ false = ap (same_service key) suit.0.key ∙ apart in
          skip_other sid key answer answer.grant later (same_both_ways key (answer_key answer) other) ∙ rest
    ]

skip_session : (sid own : Sid) (key : ServiceKey) (answer : ServiceAnswer) (grant : Option Grant) (rest : List Live) → bytes_eq sid own ≡ false
    → find (is_at sid key) (cons_option (option_map (λ grant. record { sid = own; key = answer_key answer; grant = grant }) grant) rest) ≡ find (is_at sid key) rest
skip_session sid own key answer None rest other = refl
skip_session sid own key answer (Some grant) rest other = rw other refl

none_of_session : (sid own : Sid) (key : ServiceKey) (made : List ServiceAnswer) → bytes_eq sid own ≡ false → find (is_at sid key) (filter_map (live_of own) made) ≡ None
none_of_session sid own key [] other = refl
none_of_session sid own key (answer ∷ made) other = skip_session sid own key answer answer.grant (filter_map (live_of own) made) other ∙ none_of_session sid own key made other

made_in : (done : Done) (session : Option Sid) → session_of done ≡ session → made_by done ≡ unwrap_or (option_map (λ (own : Sid). filter_map (live_of own) (answers_of done.outcome)) session) []
made_in done session is = ap (λ (o : Option Sid). unwrap_or (option_map (λ (own : Sid). filter_map (live_of own) (answers_of done.outcome)) o) []) is

true_and : (a b : Bool) → (a && b) ≡ false → a ≡ true → b ≡ false
true_and true b h t = h
true_and false b h t = absurd cc

none_made_of : (done : Done) (sid : Sid) (key : ServiceKey) (session : Option Sid) → session_of done ≡ session → Serves done → names done sid key ≡ false → find (is_at sid key) (made_by done) ≡ None
none_made_of done sid key None is serves unnamed = ap (find (is_at sid key)) (made_in done None is)
none_made_of done sid key (Some own) is serves unnamed =
    let made = answers_of done.outcome in
    elim (cases_Bool (bytes_eq own sid)) [
      | inl t ↦
          let same = same_sid own sid t in
          let here : is_sid (session_of done) sid ≡ true = ap (λ (o : Option Sid). is_sid o sid) is ∙ t in
          let none = true_and (is_sid (session_of done) sid) (list_any (same_service key) (named (looked_at done.act.kind))) unnamed here in
          ap (find (is_at sid key)) (made_in done (Some own) is) ∙ ap (λ (s : Sid). find (is_at sid key) (filter_map (live_of s) made)) same
          ∙ none_unnamed sid key (looked_at done.act.kind) made (serves.suit own is) none
      | inr f ↦ ap (find (is_at sid key)) (made_in done (Some own) is) ∙ none_of_session sid own key made (apart_both_ways own sid f)
    ]

-- what was never opened isn't open
pub unopened_shut : (terms : TermsView) (past : List Done) (sid : Sid) → was_opened past sid ≡ false → is_open terms past sid ≡ false
unopened_shut terms [] sid h = refl
unopened_shut terms (done ∷ past) sid h =
    let parts = or_parts (opens done sid) (was_opened past sid) h in
    let before = unopened_shut terms past sid parts.1 in
    rw (parts.0, before) refl

-- a grant does not go on where its service is named
named_ends : (terms : TermsView) (past : List Done) (done : Done) (sid : Sid) (key : ServiceKey) → names done sid key ≡ true → (held : Live) → is_at sid key held ≡ true → goes_on terms past done held ≡ false
named_ends terms past done sid key named held h =
    let p = and_parts (bytes_eq sid held.sid) (same_service held.key key) h in
    let sids : held.sid ≡ sid = sym (same_sid sid held.sid p.0) in
    let keys : held.key ≡ key = same_service-true held.key key p.1 in
    rw (sids, keys, named) (ap not (or-true (ends terms past done sid)))

or_none : {X : Type 0} (found : Option X) → option_or found None ≡ found
or_none None = refl
or_none (Some x) = refl

-- the look back and the list of live grants give one grant
abbrev pub IsFound : TermsView → List Done → Type 0
IsFound terms past = (sid : Sid) (key : ServiceKey) → live terms past sid key ≡ option_map grant_of (find (is_at sid key) (lives terms past))

last_found : (terms : TermsView) (past : List Done) (done : Done) → Opens terms past done → Serves done → AllAreOpen terms past (lives terms past) → IsFound terms past
    → (sid : Sid) (key : ServiceKey) → is_open terms (done ∷ past) sid ≡ true → last_grant (done ∷ past) sid key ≡ option_map grant_of (find (is_at sid key) (lives terms (done ∷ past)))
last_found terms past done new serves before found sid key now =
    let at = is_at sid key in
    let made_here = answers_of done.outcome in
    let stay = filter (goes_on terms past done) (lives terms past) in
    let whole : find at (lives terms (done ∷ past)) ≡ option_or (find at (made_by done)) (find at stay) = find-append at (made_by done) stay in
    elim (cases_Bool (names done sid key)) [
      | inl t ↦
          let p = and_parts (is_sid (session_of done) sid) (list_any (same_service key) (named (looked_at done.act.kind))) t in
          let is = own_sid (session_of done) sid p.0 in
          let by : made_by done ≡ filter_map (live_of sid) made_here = made_in done (Some sid) is in
          let dropped : find at stay ≡ None = find_dropped at (goes_on terms past done) (lives terms past) (named_ends terms past done sid key t) in
          let own : find at (lives terms (done ∷ past)) ≡ find at (filter_map (live_of sid) made_here) =
          whole ∙ ap (option_or (find at (made_by done))) dropped ∙ or_none (find at (made_by done)) ∙ ap (find at) by in
          let apart : are_apart (map answer_key made_here) ≡ true = ap are_apart (keys_answered (looked_at done.act.kind) made_here (serves.suit sid is)) ∙ serves.apart in
          let last : last_grant (done ∷ past) sid key ≡ made done key = rw t refl in
          last ∙ sym (made_found sid key made_here apart) ∙ ap (option_map grant_of) (sym own)
      | inr unnamed ↦
          let none = none_made_of done sid key (session_of done) refl serves unnamed in
          let later : find at (lives terms (done ∷ past)) ≡ find at stay = whole ∙ ap (λ (o : Option Live). option_or o (find at stay)) none in
          elim (cases_Bool (opens done sid)) [
            | inl t ↦
                let may = new.may sid (own_sid (opens_by done.act.kind done.outcome) sid t) in
                let nothing = find_nowhere at (goes_on terms past done) (lives terms past) (none_shut terms past sid key (lives terms past) before (unopened_shut terms past sid may.new)) in
                let last : last_grant (done ∷ past) sid key ≡ None = rw (unnamed, t) refl in
                last ∙ sym (ap (option_map grant_of) (later ∙ nothing))
            | inr unopened ↦
                let both = open_before terms past done sid unopened now in
                let unended = not-true (ends terms past done sid) both.1 in
                let kept = find_kept at (goes_on terms past done) (lives terms past) (stays_at terms past done sid key unnamed unended) in
                let was = both.0 in
                let alive : live terms past sid key ≡ last_grant past sid key = rw was refl in
                let last : last_grant (done ∷ past) sid key ≡ last_grant past sid key = rw (unnamed, unopened) refl in
                last ∙ sym alive ∙ found sid key ∙ sym (ap (option_map grant_of) (later ∙ kept))
          ]
    ]

found_with : (terms : TermsView) (past : List Done) (done : Done) → Opens terms past done → Serves done → AllAreOpen terms past (lives terms past)
    → AllAreOpen terms (done ∷ past) (lives terms (done ∷ past)) → IsFound terms past → IsFound terms (done ∷ past)
found_with terms past done new serves before all found sid key =
    elim (cases_Bool (is_open terms (done ∷ past) sid)) [
      | inl now ↦
          let alive : live terms (done ∷ past) sid key ≡ last_grant (done ∷ past) sid key = rw now refl in
          alive ∙ last_found terms past done new serves before found sid key now
      | inr shut ↦
          let dead : live terms (done ∷ past) sid key ≡ None = rw shut refl in
          dead ∙ sym (ap (option_map grant_of) (none_shut terms (done ∷ past) sid key (lives terms (done ∷ past)) all shut))
    ]

-- a service's live grant is the one of its session and its key among all live grants
found_in : (terms : TermsView) (xs : List Act) → AreKeyed xs → IsFound terms (history terms xs)
found_in terms [] keyed sid key = refl
found_in terms (act ∷ earlier) keyed sid key =
    let past = history terms earlier in
    let before = history_live terms earlier in
    elim (cases_Bool (is_made terms past act)) [
      | inl t ↦ rw t (
          let is = judged_new terms past act t in
          subst (λ (outcome : Outcome). live terms (record { act = act; outcome = outcome } ∷ past) sid key
          ≡ option_map grant_of (find (is_at sid key) (lives terms (record { act = act; outcome = outcome } ∷ past)))) (sym is)
          (found_with terms past (done_as act.moment act.kind (decided terms past act.moment act.kind)) (record { may = opens_what_may terms past act.moment act.kind })
          (decided_serves terms past act.moment act.kind keyed.0) before (decided_open terms past act.moment act.kind before) (found_in terms earlier keyed.1) sid key))
      | inr f ↦ rw f (found_in terms earlier keyed.1 sid key)
    ]

pub live_is_found : LiveIsFound
live_is_found terms xs keyed =
    found_in terms (reverse xs) (all_reverse (λ (act : Act). are_apart (map service_key (services_of act.kind)) ≡ true) xs keyed)
