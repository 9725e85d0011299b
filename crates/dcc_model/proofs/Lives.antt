-- Each live grant is of an open session.
use Rattle.std.proofs.Common.{◌≡◌, ℕ, ℤ, Bool, true, false, not, ◌&&◌, ◌||◌, ◌==◌, List, [], ◌∷◌, ◌++◌, map, reverse, refl, sym, ap, subst, ◌∙◌, inl, inr, ◌⊎◌, filter, filter_map, Option, Some, None, is_none, option_map}
use Rattle.std.specs.Prelude.{⊤}
use Rattle.std.specs.List.{cons_option, AllByRecursion}
use Rattle.std.proofs.lemmas.Bool.{cases_Bool, not-true, or_parts, or_left, or_right}
use Rattle.dcc_tariff.specs.Terms.{TermsView}
use Rattle.dcc_tariff.specs.Prices.{best}
use Rattle.dcc_act.specs.Answers.{answer_key}
use Rattle.dcc_act.specs.Services.{ServiceView, service_key}
use Rattle.dcc_act.specs.declared.act.Act.{Act}
use Rattle.dcc_act.specs.declared.act.Kind.{Kind}
use Rattle.dcc_act.specs.declared.act.Kind.TheVariants as kind
use Rattle.dcc_act.specs.declared.grant.Grant.{Grant}
use Rattle.dcc_act.specs.declared.outcome.Outcome.{Outcome}
use Rattle.dcc_act.specs.declared.outcome.RequestType.TheVariants as request
use Rattle.dcc_act.specs.declared.outcome.ResultCode.{ResultCode}
use Rattle.dcc_act.specs.declared.outcome.ResultCode.TheVariants.{Success}
use Rattle.dcc_act.specs.declared.outcome.ServiceAnswer.{ServiceAnswer}
use Rattle.dcc_act.specs.declared.service.Form.{Form}
use Rattle.dcc_act.specs.declared.service.Form.TheVariants.{Single, Multi}
use Rattle.dcc_act.specs.declared.session_limit.SessionLimit.{SessionLimit}
use Rattle.dcc_act.specs.declared.session_request.SessionRequest.{SessionRequest}
use Rattle.dcc_model.specs.declared.done.Done.{Done}
use Rattle.dcc_model.specs.Results.{is_success, succeeded, refused, answers_of}
use Rattle.dcc_model.specs.Sessions.{Sid, Live, opens, ends, is_open, without_asked, looked_at, names, live_of, made_by, goes_on, lives}
use Rattle.dcc_model.specs.Money.{asked_units, is_unrated, room}
use Rattle.dcc_model.specs.Outcomes.{granted, granted_within, asked_answer, answer_to, answers, command_result, served, decided, is_made, history}
use Rattle.dcc_model.specs.Laws.{LiveAreOpen}
use Rattle.dcc_model.proofs.Histories.{judged_new}
use Rattle.dcc_model.proofs.Served.{MayReport, reported_cases}
use Rattle.dcc_model.proofs.Funds.{done_as}
use Rattle.dcc_model.proofs.Grants.{sid_is_own}

-- an answer is that of its service, and grants only what was asked for, with success
pub record Suits (service : ServiceView) (answer : ServiceAnswer) : Type 0 where
  pub form : answer.form ≡ service.form
  pub key : answer_key answer ≡ service_key service
  pub grants : (is_none answer.grant ≡ true) ⊎ ((is_success answer.result ≡ true) × (is_none service.asked ≡ false))

granted_suits : (service : ServiceView) (asked : Grant) (units : ℕ) → is_none service.asked ≡ false → Suits service (granted service asked units)
granted_suits service asked units some =
    elim (cases_Bool (units == 0)) [
      | inl t ↦ rw t (record { form = refl; key = refl; grants = inl refl })
      | inr f ↦ rw f (record { form = refl; key = refl; grants = inr (refl, some) })
    ]

within_suits : (service : ServiceView) (space : ℤ) (asked : Option Grant) → is_none service.asked ≡ false → Suits service (granted_within service space asked)
within_suits service space None some = record { form = refl; key = refl; grants = inl refl }
within_suits service space (Some asked) some = granted_suits service asked (best asked.tariff asked.units space) some

asked_suits : (service : ServiceView) (space : ℤ) → Suits service (asked_answer service space)
asked_suits service space =
    elim (cases_Bool (is_none service.asked)) [
      | inl t ↦ rw t (record { form = refl; key = refl; grants = inl refl })
      | inr f ↦ rw f (within_suits service space (asked_units service) f)
    ]

answer_suits : (terms : TermsView) (past : List Done) (sid : Sid) (service : ServiceView) (space : ℤ) → Suits service (answer_to terms past sid service space)
answer_suits terms past sid service space =
    elim (cases_Bool (is_unrated terms past sid service)) [
      | inl t ↦ rw t (record { form = refl; key = refl; grants = inl refl })
      | inr f ↦ rw f (asked_suits service space)
    ]

-- answers in the order of their services
abbrev pub AllSuit : List ServiceView → List ServiceAnswer → Type 0
AllSuit [] [] = ⊤
AllSuit [] (answer ∷ made) = ⊥
AllSuit (service ∷ services) [] = ⊥
AllSuit (service ∷ services) (answer ∷ made) = Suits service answer × AllSuit services made

pub answers_suit : (terms : TermsView) (past : List Done) (sid : Sid) (services : List ServiceView) (before : List ServiceAnswer) (rest : List ServiceView)
    → AllSuit rest (answers terms past sid services before rest)
answers_suit terms past sid services before [] = tt
answers_suit terms past sid services before (service ∷ rest) =
    let space = room terms past sid services before in
    (answer_suits terms past sid service space, answers_suit terms past sid services (before ++ answer_to terms past sid service space ∷ []) rest)

pub no_grant : (grant : Option Grant) (answer : ServiceAnswer) (sid : Sid) (rest : List Live) → is_none grant ≡ true
    → cons_option (option_map (λ grant. record { sid = sid; key = answer_key answer; grant = grant }) grant) rest ≡ rest
no_grant None answer sid rest h = refl
no_grant (Some grant) answer sid rest h = absurd cc

-- services that ask for nothing are granted nothing
asks_nothing : (services : List ServiceView) (made : List ServiceAnswer) (sid : Sid) → AllByRecursion (λ service. is_none service.asked ≡ true) services → AllSuit services made
    → filter_map (live_of sid) made ≡ []
asks_nothing [] [] sid none suit = refl
asks_nothing [] (answer ∷ made) sid none suit = absurd suit
asks_nothing (service ∷ services) [] sid none suit = absurd suit
asks_nothing (service ∷ services) (answer ∷ made) sid none suit =
    let rest = asks_nothing services made sid none.1 suit.1 in
    elim suit.0.grants [
      | inl ungranted ↦ no_grant answer.grant answer sid (filter_map (live_of sid) made) ungranted ∙ rest
      | inr both ↦ let asked = both.1 in let unasked = none.0 in absurd cc
    ]

unasked : (services : List ServiceView) → AllByRecursion (λ service. is_none service.asked ≡ true) (map without_asked services)
unasked [] = tt
unasked (service ∷ services) = (refl, unasked services)

result_alone : (form : Form) (result : ResultCode) → is_success (elim form as (λ _. ResultCode) [ Single ↦ result | Multi ↦ Success ]) ≡ false → is_success result ≡ false
result_alone Single result h = h
result_alone Multi result h = absurd cc

-- where a command fails with the result of its service, nothing was granted
nothing_granted : (services : List ServiceView) (made : List ServiceAnswer) (sid : Sid) → AllSuit services made → is_success (command_result made) ≡ false → filter_map (live_of sid) made ≡ []
nothing_granted services [] sid suit failed = refl
nothing_granted [] (answer ∷ made) sid suit failed = absurd suit
nothing_granted (service ∷ services) (answer ∷ []) sid suit failed =
    let fails = result_alone answer.form answer.result failed in
    elim suit.0.grants [
      | inl ungranted ↦ no_grant answer.grant answer sid [] ungranted
      | inr both ↦ let succeeds = both.0 in absurd cc
    ]
nothing_granted (service ∷ services) (answer ∷ other ∷ made) sid suit failed = absurd cc

-- all grants that an act made in its session, and all that went on, are of open sessions
abbrev pub AllAreOpen : TermsView → List Done → List Live → Type 0
AllAreOpen terms past helds = AllByRecursion (λ (held : Live). is_open terms past held.sid ≡ true) helds

with_open : (terms : TermsView) (past : List Done) (sid : Sid) (answer : ServiceAnswer) (grant : Option Grant) (rest : List Live) → is_open terms past sid ≡ true → AllAreOpen terms past rest
    → AllAreOpen terms past (cons_option (option_map (λ grant. record { sid = sid; key = answer_key answer; grant = grant }) grant) rest)
with_open terms past sid answer None rest now all = all
with_open terms past sid answer (Some grant) rest now all = (now, all)

granted_open : (terms : TermsView) (past : List Done) (sid : Sid) (made : List ServiceAnswer) → is_open terms past sid ≡ true → AllAreOpen terms past (filter_map (live_of sid) made)
granted_open terms past sid [] now = tt
granted_open terms past sid (answer ∷ made) now = with_open terms past sid answer answer.grant (filter_map (live_of sid) made) now (granted_open terms past sid made now)

none_open : (terms : TermsView) (past : List Done) (helds : List Live) → helds ≡ [] → AllAreOpen terms past helds
none_open terms past [] none = tt
none_open terms past (held ∷ helds) none = absurd cc

initial_made : (terms : TermsView) (past : List Done) (moment : ℕ) (opening : SessionRequest) (limit : SessionLimit) (host : Option (List ℕ)) (outcome : Outcome)
    → AllAreOpen terms (done_as moment (kind.Initial opening limit host) outcome ∷ past) (made_by (done_as moment (kind.Initial opening limit host) outcome))
initial_made terms past moment opening limit host outcome =
    let done = done_as moment (kind.Initial opening limit host) outcome in
    elim (cases_Bool (succeeded outcome)) [
      | inl t ↦
          let opened : opens done opening.key.sid ≡ true = rw t (sid_is_own opening.key.sid) in
          let now : is_open terms (done ∷ past) opening.key.sid ≡ true = or_left (opens done opening.key.sid) (is_open terms past opening.key.sid && not (ends terms past done opening.key.sid)) opened in
          let made : made_by done ≡ filter_map (live_of opening.key.sid) (answers_of outcome) = rw t refl in
          subst (AllAreOpen terms (done ∷ past)) (sym made) (granted_open terms (done ∷ past) opening.key.sid (answers_of outcome) now)
      | inr f ↦
          let made : made_by done ≡ [] = rw f refl in
          none_open terms (done ∷ past) (made_by done) made
    ]

goes_on_open : (open_then ended : Bool) → open_then ≡ true → ended ≡ false → (open_then && not ended) ≡ true
goes_on_open true ended now h = rw h refl
goes_on_open false ended now h = absurd cc

update_made : (terms : TermsView) (past : List Done) (moment : ℕ) (report : SessionRequest) (outcome : Outcome)
    → ((outcome ≡ served terms past request.Update report.key (looked_at (kind.Update report))) × MayReport terms past report.key.sid (looked_at (kind.Update report))) ⊎ (refused outcome ≡ true)
    → AllAreOpen terms (done_as moment (kind.Update report) outcome ∷ past) (made_by (done_as moment (kind.Update report) outcome))
update_made terms past moment report outcome (inr t) =
    let done = done_as moment (kind.Update report) outcome in
    let made : made_by done ≡ [] = rw t refl in
    none_open terms (done ∷ past) (made_by done) made
update_made terms past moment report outcome (inl (is, may)) =
    let done = done_as moment (kind.Update report) outcome in
    let own = report.key.sid in
    let found = answers terms past own report.services [] report.services in
    elim (cases_Bool (refused outcome)) [
      | inl t ↦ let made : made_by done ≡ [] = rw t refl in none_open terms (done ∷ past) (made_by done) made
      | inr f ↦
          let made : made_by done ≡ filter_map (live_of own) (answers_of outcome) = rw f refl in
          elim (cases_Bool (succeeded outcome)) [
            | inl t ↦
                let unended : ends terms past done own ≡ false = rw (f, t, sid_is_own own) refl in
                let now : is_open terms (done ∷ past) own ≡ true = goes_on_open (is_open terms past own) (ends terms past done own) may.now unended in
                subst (AllAreOpen terms (done ∷ past)) (sym made) (granted_open terms (done ∷ past) own (answers_of outcome) now)
            | inr g ↦
                let failed : is_success (command_result found) ≡ false = sym (ap succeeded is) ∙ g in
                let none : filter_map (live_of own) (answers_of outcome) ≡ [] =
                ap (λ (o : Outcome). filter_map (live_of own) (answers_of o)) is
                ∙ nothing_granted report.services found own (answers_suit terms past own report.services [] report.services) failed in
                none_open terms (done ∷ past) (made_by done) (made ∙ none)
          ]
    ]

termination_made : (terms : TermsView) (past : List Done) (moment : ℕ) (report : SessionRequest) (outcome : Outcome)
    → ((outcome ≡ served terms past request.Termination report.key (looked_at (kind.Termination report))) × MayReport terms past report.key.sid (looked_at (kind.Termination report))) ⊎ (refused outcome ≡ true)
    → AllAreOpen terms (done_as moment (kind.Termination report) outcome ∷ past) (made_by (done_as moment (kind.Termination report) outcome))
termination_made terms past moment report outcome (inr t) =
    let done = done_as moment (kind.Termination report) outcome in
    let made : made_by done ≡ [] = rw t refl in
    none_open terms (done ∷ past) (made_by done) made
termination_made terms past moment report outcome (inl (is, may)) =
    let done = done_as moment (kind.Termination report) outcome in
    let own = report.key.sid in
    let services = looked_at (kind.Termination report) in
    elim (cases_Bool (refused outcome)) [
      | inl t ↦ let made : made_by done ≡ [] = rw t refl in none_open terms (done ∷ past) (made_by done) made
      | inr f ↦
          let made : made_by done ≡ filter_map (live_of own) (answers_of outcome) = rw f refl in
          let none : filter_map (live_of own) (answers_of outcome) ≡ [] =
          ap (λ (o : Outcome). filter_map (live_of own) (answers_of o)) is
          ∙ asks_nothing services (answers terms past own services [] services) own (unasked report.services) (answers_suit terms past own services [] services) in
          none_open terms (done ∷ past) (made_by done) (made ∙ none)
    ]

decided_made : (terms : TermsView) (past : List Done) (moment : ℕ) (k : Kind)
    → AllAreOpen terms (done_as moment k (decided terms past moment k) ∷ past) (made_by (done_as moment k (decided terms past moment k)))
decided_made terms past moment (kind.TopUp top_up) = tt
decided_made terms past moment (kind.Initial opening limit host) = initial_made terms past moment opening limit host (decided terms past moment (kind.Initial opening limit host))
decided_made terms past moment (kind.Update report) =
    update_made terms past moment report (decided terms past moment (kind.Update report)) (reported_cases terms past request.Update report.key (looked_at (kind.Update report)))
decided_made terms past moment (kind.Termination report) =
    termination_made terms past moment report (decided terms past moment (kind.Termination report)) (reported_cases terms past request.Termination report.key (looked_at (kind.Termination report)))
decided_made terms past moment (kind.Event event) = tt
decided_made terms past moment kind.Expiry = tt

all_append : {X : Type 0} (P : X → Type 0) (xs ys : List X) → AllByRecursion P xs → AllByRecursion P ys → AllByRecursion P (xs ++ ys)
all_append P [] ys all more = more
all_append P (x ∷ xs) ys all more = (all.0, all_append P xs ys all.1 more)

-- what goes on is of sessions that stay open
went_on : (terms : TermsView) (past : List Done) (done : Done) (helds : List Live) → AllAreOpen terms past helds → AllAreOpen terms (done ∷ past) (filter (goes_on terms past done) helds)
went_on terms past done [] all = tt
went_on terms past done (held ∷ helds) all =
    let rest = went_on terms past done helds all.1 in
    elim (cases_Bool (goes_on terms past done held)) [
      | inl t ↦
          let unended = (or_parts (ends terms past done held.sid) (names done held.sid held.key) (not-true (ends terms past done held.sid || names done held.sid held.key) t)).0 in
          let stays = goes_on_open (is_open terms past held.sid) (ends terms past done held.sid) all.0 unended in
          let now : is_open terms (done ∷ past) held.sid ≡ true = or_right (opens done held.sid) (is_open terms past held.sid && not (ends terms past done held.sid)) stays in
          rw t (now, rest)
      | inr f ↦ rw f rest
    ]

-- one more act that is decided leaves live grants of open sessions alone
pub decided_open : (terms : TermsView) (past : List Done) (moment : ℕ) (k : Kind) → AllAreOpen terms past (lives terms past)
    → AllAreOpen terms (done_as moment k (decided terms past moment k) ∷ past) (lives terms (done_as moment k (decided terms past moment k) ∷ past))
decided_open terms past moment k before =
    let done = done_as moment k (decided terms past moment k) in
    all_append (λ (held : Live). is_open terms (done ∷ past) held.sid ≡ true) (made_by done) (filter (goes_on terms past done) (lives terms past))
    (decided_made terms past moment k) (went_on terms past done (lives terms past) before)

-- each live grant after these, the latest first, is of an open session
pub history_live : (terms : TermsView) (all : List Act) → AllAreOpen terms (history terms all) (lives terms (history terms all))
history_live terms [] = tt
history_live terms (act ∷ earlier) =
    let past = history terms earlier in
    let before = history_live terms earlier in
    elim (cases_Bool (is_made terms past act)) [
      | inl t ↦ rw t (
          let is = judged_new terms past act t in
          subst (λ (outcome : Outcome). AllAreOpen terms (record { act = act; outcome = outcome } ∷ past) (lives terms (record { act = act; outcome = outcome } ∷ past))) (sym is)
          (decided_open terms past act.moment act.kind before))
      | inr f ↦ rw f before
    ]

pub live_are_open : LiveAreOpen
live_are_open terms xs = history_live terms (reverse xs)
