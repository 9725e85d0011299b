-- What the indexes find of the acts that were made, beside a look back over them.
use Rattle.std.proofs.Common.{◌≡◌, ℕ, zero, suc, ◌+◌, ◌<◌, ◌≤◌, Bool, true, false, not, ◌||◌, cond, List, [], ◌∷◌, ◌++◌, length, map, reverse, refl, sym, ap, ◌∙◌, arith, inl, inr, ◌⊎◌, Option, Some, None, nat_eq, option_map, ◌==◌}
use Rattle.std.specs.Prelude.{find, slice_get, bytes_eq}
use Rattle.std.specs.Option.{option_and_then}
use Rattle.std.specs.List.{list_any}
use Rattle.std.specs.Map.{lookup}
use Rattle.std.proofs.lemmas.Bool.{cases_Bool}
use Rattle.std.proofs.lemmas.Bool.Decides.{nat_tests}
use Rattle.std.proofs.lemmas.List.{reverse-append, length-reverse, length-map}
use Rattle.indexmap.specs.IndexMap as index_map
use Rattle.indexmap.specs.IndexSet as index_set
use Rattle.dcc_tariff.specs.Terms.{TermsView}
use Rattle.dcc_act.specs.declared.act.Act.{Act}
use Rattle.dcc_act.specs.declared.act.Kind.{Kind}
use Rattle.dcc_act.specs.declared.act.Kind.TheVariants.{TopUp, Initial, Update, Termination, Event, Expiry}
use Rattle.dcc_act.specs.TopUps.{TopUpView}
use Rattle.dcc_act.specs.declared.session_request.SessionRequest.{SessionRequest}
use Rattle.dcc_act.specs.declared.outcome.Outcome.{Outcome}
use Rattle.dcc_act.specs.declared.request_key.RequestKey.{RequestKey}
use Rattle.dcc_act.specs.declared.session_limit.SessionLimit.{SessionLimit}
use Rattle.dcc_model.specs.declared.done.Done.{Done}
use Rattle.dcc_model.specs.Keys.{request_key, same_request, same_key, is_top_up}
use Rattle.dcc_model.specs.Outcomes.{act_made, outcome_of, place_of_key, first_of, kept_of, has_account, history, is_made}
use Rattle.dcc_model.specs.Sessions.{Sid}
use Rattle.dcc_account.specs.declared.indexes.Indexes.{Indexes}
use Rattle.dcc_account.specs.inner.Indexed.{place_by, is_request, is_top_up_of, same_name, IsIndexed, outcome_in}

-- the definition's place is that of the latest act of the same key
place_is : (past : List Done) (kind : Kind) → place_of_key (map act_made past) kind ≡ place_by (λ done. same_key kind done.act.kind) past
place_is [] kind = refl
place_is (done ∷ past) kind =
    ap (λ (n : ℕ). cond (same_key kind done.act.kind) (Some (n + 1)) (place_of_key (map act_made past) kind)) (length-map past act_made)
    ∙ ap (λ (p : Option ℕ). cond (same_key kind done.act.kind) (Some (length past + 1)) p) (place_is past kind)

-- tests that agree find the same
place_by_same : (p q : Done → Bool) → ((done : Done) → p done ≡ q done) → (past : List Done) → place_by p past ≡ place_by q past
place_by_same p q same [] = refl
place_by_same p q same (done ∷ past) =
    ap (λ (b : Bool). cond b (Some (length past + 1)) (place_by p past)) (same done) ∙ ap (λ (o : Option ℕ). cond (q done) (Some (length past + 1)) o) (place_by_same p q same past)

or_false : (b : Bool) → (b || false) ≡ b
or_false true = refl
or_false false = refl

-- an act has the key of a request just where it is the request of that key
keyed : (kind other : Kind) (key : RequestKey) → request_key kind ≡ Some key → same_key kind other ≡ same_request (Some key) (request_key other)
keyed (TopUp top_up) other key h = absurd cc
keyed (Initial request limit host) other key h = or_false (same_request (Some request.key) (request_key other)) ∙ ap (λ (k : Option RequestKey). same_request k (request_key other)) h
keyed (Update request) other key h = or_false (same_request (Some request.key) (request_key other)) ∙ ap (λ (k : Option RequestKey). same_request k (request_key other)) h
keyed (Termination request) other key h = or_false (same_request (Some request.key) (request_key other)) ∙ ap (λ (k : Option RequestKey). same_request k (request_key other)) h
keyed (Event event) other key h = or_false (same_request (Some event.key) (request_key other)) ∙ ap (λ (k : Option RequestKey). same_request k (request_key other)) h
keyed Expiry other key h = absurd cc

-- the place of the act of a request's key
pub place_of_request : (past : List Done) (kind : Kind) (key : RequestKey) → request_key kind ≡ Some key → place_by (is_request key) past ≡ place_of_key (map act_made past) kind
place_of_request past kind key h =
    sym (place_is past kind ∙ place_by_same (λ done. same_key kind done.act.kind) (is_request key) (λ done. keyed kind done.act.kind key h) past)

-- of a top-up's ticket
pub place_of_ticket : (past : List Done) (kind : Kind) (top_up : TopUpView) → kind ≡ TopUp top_up → place_by (is_top_up_of top_up.ticket) past ≡ place_of_key (map act_made past) kind
place_of_ticket past kind top_up h = rw h (sym (place_is past (TopUp top_up)))

-- an expiry has no key
never : (past : List Done) → place_of_key (map act_made past) Expiry ≡ None
never [] = refl
never (done ∷ past) = never past

pub place_of_expiry : (past : List Done) (kind : Kind) → kind ≡ Expiry → None ≡ place_of_key (map act_made past) kind
place_of_expiry past kind h = rw h (sym (never past))

-- a request of a session has a key
pub key_of : (kind : Kind) (request : SessionRequest) → ((limit : SessionLimit) × (host : Option (List ℕ)) × (kind ≡ Initial request limit host)) ⊎ ((kind ≡ Update request) ⊎ (kind ≡ Termination request)) → request_key kind ≡ Some request.key
key_of kind request (inl h) = ap request_key h.2
key_of kind request (inr (inl h)) = ap request_key h
key_of kind request (inr (inr h)) = ap request_key h

-- the indexes after their keys have moved
pub indexed_at : (past : List Done) (old new : Indexes) → IsIndexed past old
    → ((q : RequestKey) → index_map.get same_name new.requests q ≡ index_map.get same_name old.requests q)
    → ((q : ℕ) → index_map.get nat_eq new.tickets q ≡ index_map.get nat_eq old.tickets q)
    → ((q : Sid) → index_set.contains bytes_eq new.opened q ≡ index_set.contains bytes_eq old.opened q)
    → IsIndexed past new
indexed_at past old new is requests tickets opened = record {
  requests_are = λ q. requests q ∙ is.requests_are q;
  tickets_are = λ q. tickets q ∙ is.tickets_are q;
  opened_are = λ q. opened q ∙ is.opened_are q;
}

slice_get-before : (xs ys : List Outcome) (i : ℕ) → i < length xs → slice_get (xs ++ ys) i ≡ slice_get xs i
slice_get-before [] ys i h = absurd (omega (arith, h))
slice_get-before (x ∷ xs) ys zero h = refl
slice_get-before (x ∷ xs) ys (suc i) h = slice_get-before xs ys i (omega (arith, h))

slice_get-last : (xs : List Outcome) (y : Outcome) → slice_get (xs ++ y ∷ []) (length xs) ≡ Some y
slice_get-last [] y = refl
slice_get-last (x ∷ xs) y = slice_get-last xs y

outcome_in-before : (xs ys : List Outcome) (place : ℕ) → place ≤ length xs → outcome_in (xs ++ ys) place ≡ outcome_in xs place
outcome_in-before xs ys zero h = refl
outcome_in-before xs ys (suc i) h = slice_get-before xs ys i (omega (arith, h))

outcome_in-last : (xs : List Outcome) (y : Outcome) (n : ℕ) → n ≡ length xs → outcome_in (xs ++ y ∷ []) (n + 1) ≡ Some y
outcome_in-last xs y n h = let e : n + 1 ≡ suc (length xs) = omega (arith, h) in rw e (slice_get-last xs y)

place_within : (test : Done → Bool) (past : List Done) (place : ℕ) → place_by test past ≡ Some place → place ≤ length past
place_within test [] place h = absurd cc
place_within test (done ∷ past) place h =
    elim (cases_Bool (test done)) [
      | inl t ↦ let e : Some (length past + 1) ≡ Some place = (rw t at h) in let n : length past + 1 ≡ place = cc in omega (arith, n)
      | inr f ↦ let e : place_by test past ≡ Some place = (rw f at h) in let n = place_within test past place e in omega (arith, n)
    ]

-- what these acts came to, in their order
came : List Done → List Outcome
came past = reverse (map outcome_of past)

many_came : (past : List Done) → length (came past) ≡ length past
unfolding came
many_came past = length-reverse (map outcome_of past) ∙ length-map past outcome_of

came_more : (done : Done) (past : List Done) → came (done ∷ past) ≡ came past ++ done.outcome ∷ []
unfolding came
came_more done past = reverse-append (done.outcome ∷ []) (map outcome_of past)

-- what the act that a look back finds came to stands at the place that it finds
found_back : (test : Done → Bool) (past : List Done) → option_map outcome_of (find test past) ≡ option_and_then (outcome_in (came past)) (place_by test past)
found_back test [] = refl
found_back test (done ∷ past) =
    elim (cases_Bool (test done)) [
      | inl t ↦ rw t (sym (ap (λ (all : List Outcome). outcome_in all (length past + 1)) (came_more done past) ∙ outcome_in-last (came past) done.outcome (length past) (sym (many_came past))))
      | inr f ↦ rw f (found_back test past ∙ stays (place_by test past) (place_within test past))
    ]
  where
    stays : (p : Option ℕ) → ((place : ℕ) → p ≡ Some place → place ≤ length past) → option_and_then (outcome_in (came past)) p ≡ option_and_then (outcome_in (came (done ∷ past))) p
    stays None within = refl
    stays (Some place) within =
        let many = many_came past in
        let few = within place refl in
        sym (ap (λ (all : List Outcome). outcome_in all place) (came_more done past) ∙ outcome_in-before (came past) (done.outcome ∷ []) place (omega (arith, many, few)))

-- the acts of an account begin with a top-up
one_begins : (terms : TermsView) (act : Act) → is_made terms [] act ≡ true → is_top_up act.kind ≡ true
one_begins terms act h = by act.kind act.moment h
  where
    by : (kind : Kind) (moment : ℕ) → is_made terms [] (record { moment = moment; kind = kind }) ≡ true → is_top_up kind ≡ true
    by (TopUp top_up) moment h = refl
    by (Initial request limit host) moment h = absurd cc
    by (Update request) moment h = absurd cc
    by (Termination request) moment h = absurd cc
    by (Event event) moment h = absurd cc
    by Expiry moment h = absurd cc

pub begun : (terms : TermsView) (earlier : List Act) → (history terms earlier ≡ []) ⊎ (has_account (history terms earlier) ≡ true)
begun terms [] = inl refl
begun terms (act ∷ earlier) =
    elim (cases_Bool (is_made terms (history terms earlier) act)) [
      | inl t ↦ inr (rw t (elim (begun terms earlier) [
        | inl none ↦ let first = one_begins terms act (ap (λ (past : List Done). is_made terms past act) (sym none) ∙ t) in rw first refl
        | inr some ↦ rw some (or_true (is_top_up act.kind))
      ]))
      | inr f ↦ rw f (begun terms earlier)
    ]
  where
    or_true : (b : Bool) → (b || true) ≡ true
    or_true true = refl
    or_true false = refl

some_acts : (past : List Done) → has_account past ≡ true → 0 < length past
some_acts [] h = absurd cc
some_acts (done ∷ past) h = omega arith

-- there is an account just where there are acts
pub has_some : (terms : TermsView) (earlier : List Act) (count : ℕ) → count ≡ length (history terms earlier) → not (count == 0) ≡ has_account (history terms earlier)
has_some terms earlier count many =
    elim (begun terms earlier) [
      | inl none ↦ let zero : count ≡ 0 = many ∙ ap (λ (past : List Done). length past) none in rw zero (sym (ap has_account none))
      | inr there ↦
          let more = some_acts (history terms earlier) there in
          let some : (count == 0) ≡ false = grind (arith, nat_tests, many, more) in rw some (sym there)
    ]

-- what the first act of a key came to stands at its place
pub first_at : (past : List Done) (given : List Outcome) (kind : Kind) (place : Option ℕ) (found : Option Outcome) → given ≡ reverse (map outcome_of past) → place ≡ place_of_key (map act_made past) kind
    → found ≡ option_and_then (outcome_in given) place → found ≡ option_map outcome_of (first_of past kind)
unfolding came
first_at past given kind place found same place_is_it is =
    is ∙ ap (λ (all : List Outcome). option_and_then (outcome_in all) place) same
    ∙ ap (λ (p : Option ℕ). option_and_then (outcome_in (reverse (map outcome_of past))) p) (place_is_it ∙ place_is past kind)
    ∙ sym (found_back (λ done. same_key kind done.act.kind) past)

pub kept_at_place : (past : List Done) (given : List Outcome) (key : RequestKey) (place : Option ℕ) (found : Option Outcome) → given ≡ reverse (map outcome_of past) → place ≡ place_by (is_request key) past
    → found ≡ option_and_then (outcome_in given) place → found ≡ kept_of past key
unfolding came
kept_at_place past given key place found same place_is_it is =
    is ∙ ap (λ (all : List Outcome). option_and_then (outcome_in all) place) same
    ∙ ap (λ (p : Option ℕ). option_and_then (outcome_in (reverse (map outcome_of past))) p) place_is_it
    ∙ sym (found_back (is_request key) past)

-- indexes without keys
pub none_indexed : (indexes : Indexes) → index_map.IsEmpty indexes.requests → index_map.IsEmpty indexes.tickets → index_set.IsEmpty indexes.opened → IsIndexed [] indexes
none_indexed indexes requests tickets opened = record {
  requests_are = λ q. ap (λ (es : List (RequestKey × ℕ)). lookup (same_name q) es) requests;
  tickets_are = λ q. ap (λ (es : List (ℕ × ℕ)). lookup (nat_eq q) es) tickets;
  opened_are = λ q. ap (λ (ks : List Sid). list_any (bytes_eq q) ks) opened;
}
