-- Where one more act stands among the acts, and which has no place.
use Rattle.std.proofs.Common.{◌≡◌, ℕ, ◌+◌, ◌-◌, ◌≤◌, true, false, not, ◌⊎◌, ◌&&◌, Option, None, List, [], ◌∷◌, ◌++◌, length, map, reverse, refl, sym, ap, ◌∙◌, arith, inl, inr, Some, is_none, slice_get}
use Rattle.std.specs.Prelude.{int_lt, nat_le, pos, ◌+ℤ◌, unwrap_or, IsSomeAnd}
use Rattle.std.specs.Option.{option_map_or}
use Rattle.std.proofs.lemmas.Bool.{cases_Bool, cond_both, or_parts, or_from}
use Rattle.std.proofs.lemmas.List.{reverse-append, reverse-reverse, length-reverse, length-map}
use Rattle.dcc_tariff.specs.Terms.{TermsView}
use Rattle.dcc_act.specs.Limits.{most_sessions}
use Rattle.dcc_act.specs.declared.act.Act.{Act}
use Rattle.dcc_act.specs.declared.act.Kind.{Kind}
use Rattle.dcc_act.specs.declared.act.Kind.TheVariants as kind
use Rattle.dcc_act.specs.declared.outcome.Outcome.{Outcome}
use Rattle.dcc_act.specs.declared.outcome.Outcome.TheVariants.{Added, Ceiling}
use Rattle.dcc_act.specs.declared.outcome.RequestType.{RequestType}
use Rattle.dcc_act.specs.declared.outcome.RequestType.TheVariants as request
use Rattle.dcc_act.specs.declared.request_key.RequestKey.{RequestKey}
use Rattle.dcc_act.specs.Services.{ServiceView}
use Rattle.dcc_act.specs.declared.session_limit.SessionLimit.{SessionLimit}
use Rattle.dcc_model.specs.declared.done.Done.{Done}
use Rattle.dcc_model.specs.declared.decide.TheConstants.{CEILING}
use Rattle.dcc_model.specs.Keys.{request_key, same_key, is_top_up, is_expiry}
use Rattle.dcc_model.specs.Sessions.{is_open, was_opened, open_sessions, looked_at}
use Rattle.dcc_model.specs.Money.{charges, funds_of}
use Rattle.dcc_model.specs.Outcomes.{begun, reported, is_under, has_account, first_of, is_made, place_of_key, decided, unknown_of, is_unknown, settled, judged, history, act_made, after, is_new, place, outcome, acts}
use Rattle.dcc_model.specs.Laws.{NewIsLast, StandsAt, PlaceHolds, UnknownHasNoPlace, IdleExpiryHasNoPlace}
use Rattle.dcc_model.proofs.Histories.{judged_new, made_parts, history_of_made, history_of_acts, after_by_history, slice_get-behind, slice_get-before, outcome_last, outcome_before, one_more}

is_request : (k : Kind) → is_top_up k ≡ false → is_expiry k ≡ false → is_none (request_key k) ≡ false
is_request (kind.TopUp top_up) h other = absurd cc
is_request (kind.Initial opening limit host) h other = refl
is_request (kind.Update report) h other = refl
is_request (kind.Termination report) h other = refl
is_request (kind.Event event) h other = refl
is_request kind.Expiry h other = absurd cc

-- without an account nothing was made
pub nothing_made : (terms : TermsView) (all : List Act) → has_account (history terms all) ≡ false → history terms all ≡ []
nothing_made terms [] h = refl
nothing_made terms (act ∷ earlier) h =
    let past = history terms earlier in
    elim (cases_Bool (is_made terms past act)) [
      | inl t ↦
          let parts = or_parts (is_top_up act.kind) (has_account past) (rw t at h) in
          let none : past ≡ [] = nothing_made terms earlier parts.1 in
          elim (cases_Bool (is_expiry act.kind)) [
            | inl expiry ↦
                let idle : is_made terms past act ≡ false = rw (expiry, none) refl in
                absurd cc
            | inr other ↦
                let uncounted = or_from (has_account past) (is_none (request_key act.kind)) parts.1 (is_request act.kind parts.0 other) in
                let counted = (made_parts terms past act other t).0 in
                absurd cc
          ]
      | inr f ↦ rw f (nothing_made terms earlier (rw f at h))
    ]

-- an act of this key that was made: its place, and its outcome there
pub record Found (terms : TermsView) (past : List Done) (k : Kind) (n : ℕ) : Type 0 where
  pub done : Done
  pub first : first_of past k ≡ Some done
  pub from_one : 1 ≤ n
  pub within : n ≤ length past
  pub same : IsSomeAnd (slice_get (reverse (map act_made past)) (n - 1)) (λ there. same_key k there.kind ≡ true)
  pub outcome_is : outcome terms (reverse (map act_made past)) n ≡ Some done.outcome

-- what an act comes to after the acts of a history
after_made : (terms : TermsView) (all : List Act) (act : Act) → after terms (reverse (map act_made (history terms all))) act ≡ judged terms (history terms all) act
unfolding after
after_made terms all act =
    ap (λ (acts : List Act). judged terms (history terms acts) act) (reverse-reverse (map act_made (history terms all)))
    ∙ ap (λ (past : List Done). judged terms past act) (history_of_made terms all)

made_length : (past : List Done) → length (reverse (map act_made past)) ≡ length past
made_length past = length-reverse (map act_made past) ∙ length-map past act_made

-- the last of a list
last_at : (made : List Act) (act : Act) (n : ℕ) → n ≡ length made → slice_get (made ++ act ∷ []) n ≡ Some act
last_at made act n is =
    let at : n ≡ length made + 0 = omega arith in
    ap (slice_get (made ++ act ∷ [])) at ∙ slice_get-behind made (act ∷ []) 0

found_here : (terms : TermsView) (earlier : List Act) (act : Act) (k : Kind) (n : ℕ) → same_key k act.kind ≡ true → length (map act_made (history terms earlier)) + 1 ≡ n
    → Found terms (record { act = act; outcome = judged terms (history terms earlier) act } ∷ history terms earlier) k n
found_here terms earlier act k n same at =
    let past = history terms earlier in
    let made = reverse (map act_made past) in
    let turned : reverse (act ∷ map act_made past) ≡ made ++ act ∷ [] = reverse-append (act ∷ []) (map act_made past) in
    let long : length made ≡ length past = made_length past in
    let mapped : length (map act_made past) ≡ length past = length-map past act_made in
    let place : n ≡ length made + 1 = omega arith in
    let there : slice_get (reverse (act ∷ map act_made past)) (n - 1) ≡ Some act = ap (λ (zs : List Act). slice_get zs (n - 1)) turned ∙ last_at made act (n - 1) (omega arith) in
    record {
      done = record { act = act; outcome = judged terms past act };
      first = rw same refl;
      from_one = omega arith;
      within = omega arith;
      same = rw there same;
      outcome_is =
          ap (λ (zs : List Act). outcome terms zs n) turned ∙ ap (outcome terms (made ++ act ∷ [])) place ∙ outcome_last terms made act
          ∙ ap (λ (o : Outcome). Some o) (after_made terms earlier act);
    }

found_there : (terms : TermsView) (past : List Done) (one : Done) (k : Kind) (n : ℕ) → same_key k one.act.kind ≡ false → Found terms past k n → Found terms (one ∷ past) k n
found_there terms past one k n other found =
    let made = reverse (map act_made past) in
    let turned : reverse (one.act ∷ map act_made past) ≡ made ++ one.act ∷ [] = reverse-append (one.act ∷ []) (map act_made past) in
    let long : length made ≡ length past = made_length past in
    let some = found.from_one in
    let few = found.within in
    let there : slice_get (reverse (one.act ∷ map act_made past)) (n - 1) ≡ slice_get made (n - 1) =
    ap (λ (zs : List Act). slice_get zs (n - 1)) turned ∙ slice_get-before made (one.act ∷ []) (n - 1) (omega arith) in
    record {
      done = found.done;
      first = rw other found.first;
      from_one = found.from_one;
      within = omega arith;
      same = rw there found.same;
      outcome_is = ap (λ (zs : List Act). outcome terms zs n) turned ∙ outcome_before terms made (one.act ∷ []) n (omega arith) ∙ found.outcome_is;
    }

-- where a key has a place, there it is found
pub found_at : (terms : TermsView) (all : List Act) (k : Kind) (n : ℕ) → place_of_key (map act_made (history terms all)) k ≡ Some n → Found terms (history terms all) k n
found_at terms [] k n h = absurd cc
found_at terms (act ∷ earlier) k n h =
    let past = history terms earlier in
    let one : Done = record { act = act; outcome = judged terms past act } in
    elim (cases_Bool (is_made terms past act)) [
      | inl t ↦
          let pushed = rw t at h in
          rw t (elim (cases_Bool (same_key k act.kind)) [
            | inl same ↦ let here = rw same at pushed in found_here terms earlier act k n same cc
            | inr other ↦ found_there terms past one k n other (found_at terms earlier k n (rw other at pushed))
          ])
      | inr f ↦ rw f (found_at terms earlier k n (rw f at h))
    ]

length_acts : (terms : TermsView) (xs : List Act) → length (acts terms xs) ≡ length (history terms (reverse xs))
unfolding acts
length_acts terms xs = made_length (history terms (reverse xs))

pub new_is_last : NewIsLast
unfolding place is_new
new_is_last terms xs act new = let long = length_acts terms xs in rw new (ap (λ (n : ℕ). Some (n + 1)) (sym long))

-- a new act stands behind the others
stands_last : (terms : TermsView) (xs : List Act) (act : Act) (n : ℕ) → is_new terms xs act ≡ true → n ≡ length (acts terms xs) + 1
    → StandsAt terms (acts terms (xs ++ act ∷ [])) n act (after terms xs act)
stands_last terms xs act n new at =
    let made = acts terms xs in
    let more : acts terms (xs ++ act ∷ []) ≡ made ++ act ∷ [] = rw new at (one_more terms xs act) in
    let there : slice_get (made ++ act ∷ []) (n - 1) ≡ Some act = last_at made act (n - 1) (omega arith) in
    rw more
    (record {
      from_one = omega arith;
      same = rw there (inl refl);
      outcome_is =
          ap (outcome terms (made ++ act ∷ [])) at ∙ outcome_last terms made act
          ∙ ap (λ (o : Outcome). Some o) (after_by_history terms made xs act (history_of_acts terms xs));
    })

-- an account is there where a key is found
account_where_found : (terms : TermsView) (all : List Act) (k : Kind) (n : ℕ) → Found terms (history terms all) k n → has_account (history terms all) ≡ true
account_where_found terms all k n found =
    elim (cases_Bool (has_account (history terms all))) [
      | inl t ↦ t
      | inr f ↦
          let none = nothing_made terms all f in
          let some = found.from_one in
          let few = found.within in
          let short : length (history terms all) ≡ 0 = ap (λ (past : List Done). length past) none in
          absurd (omega arith)
    ]

-- what isn't new comes to what the first of its key came to
after_found : (terms : TermsView) (xs : List Act) (act : Act) (n : ℕ) (found : Found terms (history terms (reverse xs)) act.kind n) → after terms xs act ≡ found.done.outcome
unfolding after
after_found terms xs act n found =
    let account = account_where_found terms (reverse xs) act.kind n found in
    let first = found.first in
    rw (account, first) refl

found_same : (act : Act) (there : Option Act) → IsSomeAnd there (λ there. same_key act.kind there.kind ≡ true) → IsSomeAnd there (λ there. (there ≡ act) ⊎ (same_key act.kind there.kind ≡ true))
found_same act None same = absurd same
found_same act (Some there) same = inr same

same_in : (terms : TermsView) (xs : List Act) (act : Act) (n : ℕ) (found : Found terms (history terms (reverse xs)) act.kind n)
    → IsSomeAnd (slice_get (acts terms xs) (n - 1)) (λ there. (there ≡ act) ⊎ (same_key act.kind there.kind ≡ true))
unfolding acts
same_in terms xs act n found = found_same act (slice_get (reverse (map act_made (history terms (reverse xs)))) (n - 1)) found.same

outcome_in : (terms : TermsView) (xs : List Act) (act : Act) (n : ℕ) (found : Found terms (history terms (reverse xs)) act.kind n) → outcome terms (acts terms xs) n ≡ Some found.done.outcome
unfolding acts
outcome_in terms xs act n found = found.outcome_is

stands_before : (terms : TermsView) (xs : List Act) (act : Act) (n : ℕ) → is_new terms xs act ≡ false → Found terms (history terms (reverse xs)) act.kind n
    → StandsAt terms (acts terms (xs ++ act ∷ [])) n act (after terms xs act)
stands_before terms xs act n old found =
    let more : acts terms (xs ++ act ∷ []) ≡ acts terms xs = rw old at (one_more terms xs act) in
    rw more
    (record {
      from_one = found.from_one;
      same = same_in terms xs act n found;
      outcome_is = outcome_in terms xs act n found ∙ ap (λ (o : Outcome). Some o) (sym (after_found terms xs act n found));
    })

pub place_holds : PlaceHolds
unfolding place is_new
place_holds terms xs act n h =
    elim (cases_Bool (is_made terms (history terms (reverse xs)) act)) [
      | inl t ↦ let long = length_acts terms xs in let here = rw t at h in let at : length (history terms (reverse xs)) + 1 ≡ n = cc in stands_last terms xs act n t (omega arith)
      | inr f ↦ stands_before terms xs act n f (found_at terms (reverse xs) act.kind n (rw f at h))
    ]

-- what is made has an account, or makes one
Known : Outcome → Type 0
Known outcome = is_unknown outcome ≡ false

begun_known : (terms : TermsView) (past : List Done) (key : RequestKey) (limit : SessionLimit) (services : List ServiceView) → Known (begun terms past key limit services)
unfolding Known
begun_known terms past key limit services =
    cond_both (was_opened past key.sid) _ _ Known (λ _. refl)
    (λ _. cond_both (nat_le (most_sessions limit) (length (open_sessions terms past))) _ _ Known (λ _. refl) (λ _. refl))

reported_known : (terms : TermsView) (past : List Done) (type : RequestType) (key : RequestKey) (services : List ServiceView) → Known (reported terms past type key services)
unfolding Known
reported_known terms past type key services =
    cond_both (not (is_open terms past key.sid)) _ _ Known (λ _. refl)
    (λ _. cond_both (is_under (funds_of terms past) (charges terms past key.sid services)) _ _ Known (λ _. refl) (λ _. refl))

decided_known : (terms : TermsView) (past : List Done) (moment : ℕ) (k : Kind) → is_unknown (decided terms past moment k) ≡ false
unfolding Known
decided_known terms past moment (kind.TopUp top_up) =
    cond_both (int_lt CEILING (funds_of terms past +ℤ pos top_up.amount)) Ceiling Added (λ (o : Outcome). is_unknown o ≡ false) (λ _. refl) (λ _. refl)
decided_known terms past moment (kind.Initial opening limit host) = begun_known terms past opening.key limit (looked_at (kind.Initial opening limit host))
decided_known terms past moment (kind.Update report) = reported_known terms past request.Update report.key (looked_at (kind.Update report))
decided_known terms past moment (kind.Termination report) = reported_known terms past request.Termination report.key (looked_at (kind.Termination report))
decided_known terms past moment (kind.Event event) = refl
decided_known terms past moment kind.Expiry = refl

AllKnown : List Done → Type 0
AllKnown [] = Unit {0}
AllKnown (done ∷ past) = (is_unknown done.outcome ≡ false) × AllKnown past

all_known : (terms : TermsView) (all : List Act) → AllKnown (history terms all)
unfolding AllKnown
all_known terms [] = tt
all_known terms (act ∷ earlier) =
    let past = history terms earlier in
    elim (cases_Bool (is_made terms past act)) [
      | inl t ↦ rw t (ap is_unknown (judged_new terms past act t) ∙ decided_known terms past act.moment act.kind, all_known terms earlier)
      | inr f ↦ rw f (all_known terms earlier)
    ]

-- one key, found both ways
kept_known : (past : List Done) (k : Kind) (rest : Outcome) → AllKnown past → (true && is_none (first_of past k)) ≡ false
    → is_none (place_of_key (map act_made past) k) ≡ is_unknown (option_map_or (λ (done : Done). done.outcome) (first_of past k) rest)
unfolding AllKnown
kept_known [] k rest known h = absurd cc
kept_known (done ∷ past) k rest known h =
    elim (cases_Bool (same_key k done.act.kind)) [
      | inl t ↦ rw t (sym known.0)
      | inr f ↦ rw f (kept_known past k rest known.1 (rw f at h))
    ]

unknown_kind : (k : Kind) (rest : Outcome) → is_expiry k ≡ false → (is_none (request_key k) && true) ≡ false → true ≡ is_unknown (unwrap_or (unknown_of k) rest)
unknown_kind (kind.TopUp top_up) rest other h = absurd cc
unknown_kind (kind.Initial opening limit host) rest other h = refl
unknown_kind (kind.Update report) rest other h = refl
unknown_kind (kind.Termination report) rest other h = refl
unknown_kind (kind.Event event) rest other h = refl
unknown_kind kind.Expiry rest other h = absurd cc

-- a request before all others
unknown_first : (terms : TermsView) (past : List Done) (act : Act) → past ≡ [] → is_expiry act.kind ≡ false → is_made terms past act ≡ false → is_none (place_of_key (map act_made past) act.kind) ≡ is_unknown (judged terms past act)
unknown_first terms [] act none other old = unknown_kind act.kind (settled terms [] act) other (rw other at old)
unknown_first terms (done ∷ past) act none other old = absurd cc

pub unknown_has_no_place : UnknownHasNoPlace
unfolding place after
unknown_has_no_place terms xs act other =
    let past = history terms (reverse xs) in
    elim (cases_Bool (is_made terms past act)) [
      | inl t ↦ rw (t, judged_new terms past act t) (sym (decided_known terms past act.moment act.kind))
      | inr f ↦
          elim (cases_Bool (has_account past)) [
            | inl account ↦ (let known = kept_known past act.kind (decided terms past act.moment act.kind) (all_known terms (reverse xs)) (rw (other, account) at f) in rw (f, account) known)
            | inr none ↦ (let first = unknown_first terms past act (nothing_made terms (reverse xs) none) other f in rw f first)
          ]
    ]

-- an expiry that isn't made stands nowhere
expiry_nowhere : (k : Kind) (all : List Act) → is_expiry k ≡ true → place_of_key all k ≡ None
expiry_nowhere k [] expiry = refl
expiry_nowhere (kind.TopUp top_up) (act ∷ all) expiry = absurd cc
expiry_nowhere (kind.Initial opening limit host) (act ∷ all) expiry = absurd cc
expiry_nowhere (kind.Update report) (act ∷ all) expiry = absurd cc
expiry_nowhere (kind.Termination report) (act ∷ all) expiry = absurd cc
expiry_nowhere (kind.Event event) (act ∷ all) expiry = absurd cc
expiry_nowhere kind.Expiry (act ∷ all) expiry = expiry_nowhere kind.Expiry all expiry

pub idle_expiry_has_no_place : IdleExpiryHasNoPlace
unfolding place is_new
idle_expiry_has_no_place terms xs act expiry =
    let past = history terms (reverse xs) in
    elim (cases_Bool (is_made terms past act)) [
      | inl t ↦ rw t refl
      | inr f ↦ let nowhere = expiry_nowhere act.kind (map act_made past) expiry in rw (f, nowhere) refl
    ]
