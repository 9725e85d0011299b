-- A repeat comes to what the first of its key came to.
use Rattle.std.proofs.Common.{◌≡◌, ℕ, bytes_eq, Bool, true, false, ◌||◌, ◌==◌, List, [], ◌∷◌, ◌++◌, reverse, refl, sym, ap, ◌∙◌, inl, inr, Option, Some, None, is_none}
use Rattle.std.proofs.lemmas.Bool.{cases_Bool, and_parts, and_from, and_right, or_left, or_right, eqb-true}
use Rattle.std.proofs.lemmas.List.{reverse-append, append_assoc}
use Rattle.dcc_tariff.specs.Terms.{TermsView}
use Rattle.dcc_act.specs.declared.act.Act.{Act}
use Rattle.dcc_act.specs.declared.act.Kind.{Kind}
use Rattle.dcc_act.specs.declared.act.Kind.TheVariants as kind
use Rattle.dcc_act.specs.declared.request_key.RequestKey.{RequestKey}
use Rattle.dcc_model.specs.declared.done.Done.{Done}
use Rattle.dcc_model.specs.Keys.{request_key, ticket, same_request, same_ticket, same_key, is_expiry}
use Rattle.dcc_model.specs.Sessions.{Sid}
use Rattle.dcc_model.specs.Outcomes.{counts, first_of, is_made, has_account, judged, history, after, is_new}
use Rattle.dcc_model.specs.Laws.{RepeatsAreFirsts, RepeatsAreOld}
use Rattle.dcc_model.proofs.Histories.{made_parts}
use Rattle.dcc_model.proofs.Places.{nothing_made}
use Rattle.dcc_model.proofs.Grants.{same_sid}

-- two requests of the key of a third have one key
one_request : (k a b : Option RequestKey) → same_request k a ≡ true → same_request k b ≡ true → same_request a b ≡ true
one_request None a b first second = absurd cc
one_request (Some k) None b first second = absurd cc
one_request (Some k) (Some a) None first second = absurd cc
one_request (Some k) (Some a) (Some b) first second =
    let p = and_parts (bytes_eq k.sid a.sid) (k.number == a.number) first in
    let q = and_parts (bytes_eq k.sid b.sid) (k.number == b.number) second in
    let sids = same_sid k.sid a.sid p.0 in
    let numbers = eqb-true k.number a.number p.1 in
    and_from (bytes_eq a.sid b.sid) (a.number == b.number)
    (ap (λ (sid : Sid). bytes_eq sid b.sid) (sym sids) ∙ q.0)
    (ap (λ (number : ℕ). number == b.number) (sym numbers) ∙ q.1)

one_ticket : (k a b : Option ℕ) → same_ticket k a ≡ true → same_ticket k b ≡ true → same_ticket a b ≡ true
one_ticket None a b first second = absurd cc
one_ticket (Some k) None b first second = absurd cc
one_ticket (Some k) (Some a) None first second = absurd cc
one_ticket (Some k) (Some a) (Some b) first second =
    let tickets = eqb-true k a first in
    ap (λ (ticket : ℕ). ticket == b) (sym tickets) ∙ second

or_false : (a : Bool) → (a || false) ≡ true → a ≡ true
or_false true h = refl
or_false false h = h

one_key_request : (key : RequestKey) (a b : Kind) → (same_request (Some key) (request_key a) || false) ≡ true → (same_request (Some key) (request_key b) || false) ≡ true → same_key a b ≡ true
one_key_request key a b first second =
    or_left (same_request (request_key a) (request_key b)) (same_ticket (ticket a) (ticket b))
    (one_request (Some key) (request_key a) (request_key b) (or_false (same_request (Some key) (request_key a)) first) (or_false (same_request (Some key) (request_key b)) second))

-- so have two acts of the key of a third
one_key : (k a b : Kind) → same_key k a ≡ true → same_key k b ≡ true → same_key a b ≡ true
one_key (kind.TopUp top_up) a b first second =
    or_right (same_request (request_key a) (request_key b)) (same_ticket (ticket a) (ticket b)) (one_ticket (Some top_up.ticket) (ticket a) (ticket b) first second)
one_key (kind.Initial opening limit host) a b first second = one_key_request opening.key a b first second
one_key (kind.Update report) a b first second = one_key_request report.key a b first second
one_key (kind.Termination report) a b first second = one_key_request report.key a b first second
one_key (kind.Event event) a b first second = one_key_request event.key a b first second
one_key kind.Expiry a b first second = absurd cc

-- what has a key is no expiry
keyed_lasts : (k a : Kind) → same_key k a ≡ true → is_expiry k ≡ false
keyed_lasts (kind.TopUp top_up) a same = refl
keyed_lasts (kind.Initial opening limit host) a same = refl
keyed_lasts (kind.Update report) a same = refl
keyed_lasts (kind.Termination report) a same = refl
keyed_lasts (kind.Event event) a same = refl
keyed_lasts kind.Expiry a same = absurd cc

-- an act that was made stays the first of its key, whatever is made later
first_stays : (terms : TermsView) (earlier : List Act) (act : Act) → is_made terms (history terms earlier) act ≡ true → (later : List Act) (k : Kind) → same_key k act.kind ≡ true
    → first_of (history terms (later ++ act ∷ earlier)) k ≡ Some (record { act = act; outcome = judged terms (history terms earlier) act })
first_stays terms earlier act made [] k same = rw (made, same) refl
first_stays terms earlier act made (one ∷ later) k same =
    let past = history terms (later ++ act ∷ earlier) in
    let before = first_stays terms earlier act made later k same in
    elim (cases_Bool (is_made terms past one)) [
      | inl t ↦
          elim (cases_Bool (same_key k one.kind)) [
            | inl twice ↦
                let alike = one_key k one.kind act.kind twice same in
                let found = first_stays terms earlier act made later one.kind alike in
                let old : is_none (first_of past one.kind) ≡ false = ap (λ (first : Option Done). is_none first) found in
                let new = (made_parts terms past one (keyed_lasts one.kind act.kind alike) t).1 in
                absurd cc
            | inr f ↦ rw (t, f) before
          ]
      | inr f ↦ rw f before
    ]

turned : (xs ys : List Act) (act : Act) → reverse (xs ++ act ∷ ys) ≡ reverse ys ++ act ∷ reverse xs
turned xs ys act =
    reverse-append xs (act ∷ ys) ∙ ap (λ (zs : List Act). zs ++ reverse xs) (reverse-append (act ∷ []) ys) ∙ append_assoc (reverse ys) (act ∷ []) (reverse xs)

first_in_order : (terms : TermsView) (xs ys : List Act) (act : Act) (k : Kind) → is_made terms (history terms (reverse xs)) act ≡ true → same_key k act.kind ≡ true
    → first_of (history terms (reverse (xs ++ act ∷ ys))) k ≡ Some (record { act = act; outcome = judged terms (history terms (reverse xs)) act })
first_in_order terms xs ys act k made same =
    ap (λ (all : List Act). first_of (history terms all) k) (turned xs ys act) ∙ first_stays terms (reverse xs) act made (reverse ys) k same

-- where an act of its key was made, there is an account
account_where_made : (terms : TermsView) (all : List Act) (k : Kind) (first : Done) → first_of (history terms all) k ≡ Some first → has_account (history terms all) ≡ true
account_where_made terms all k first is =
    elim (cases_Bool (has_account (history terms all))) [
      | inl t ↦ t
      | inr f ↦ let none = nothing_made terms all f in let nothing : first_of (history terms all) k ≡ None = ap (λ (past : List Done). first_of past k) none in absurd cc
    ]

repeated : (terms : TermsView) (all : List Act) (act : Act) (first : Done) → first_of (history terms all) act.kind ≡ Some first → judged terms (history terms all) act ≡ first.outcome
repeated terms all act first is =
    let account = account_where_made terms all act.kind first is in
    rw (account, is) refl

pub repeats_are_firsts : RepeatsAreFirsts
unfolding after is_new
repeats_are_firsts terms xs ys act again new same =
    repeated terms (reverse (xs ++ act ∷ ys)) again (record { act = act; outcome = judged terms (history terms (reverse xs)) act }) (first_in_order terms xs ys act again.kind new same)

pub repeats_are_old : RepeatsAreOld
unfolding is_new
repeats_are_old terms xs ys act again new same =
    let past = history terms (reverse (xs ++ act ∷ ys)) in
    let found = first_in_order terms xs ys act again.kind new same in
    let old : is_none (first_of past again.kind) ≡ false = ap (λ (first : Option Done). is_none first) found in
    rw (keyed_lasts again.kind act.kind same) (and_right (counts past again.kind) (is_none (first_of past again.kind)) old)
