-- Leaving out what was not made changes nothing.
use Rattle.std.proofs.Common.{◌≡◌, ℕ, ◌&&◌, zero, suc, ◌+◌, ◌≤◌, ◌<◌, Bool, true, false, ◌||◌, cond, List, [], ◌∷◌, ◌++◌, length, map, reverse, take, refl, sym, ap, ◌∙◌, arith, inl, inr, Option, Some, None, is_none, option_map, slice_get, append-nil, add-one}
use Rattle.std.specs.Prelude.{unwrap_or}
use Rattle.std.specs.Option.{option_map_or}
use Rattle.std.proofs.lemmas.Bool.{cases_Bool, and_parts}
use Rattle.std.proofs.lemmas.List.{reverse-append, reverse-reverse, take-append-le}
use Rattle.std.proofs.Math.Seq.{take-append-add}
use Rattle.dcc_tariff.specs.Terms.{TermsView}
use Rattle.dcc_act.specs.declared.act.Act.{Act}
use Rattle.dcc_act.specs.declared.act.Kind.{Kind}
use Rattle.dcc_act.specs.declared.act.Kind.TheVariants as kind
use Rattle.dcc_act.specs.declared.outcome.Outcome.{Outcome}
use Rattle.dcc_model.specs.declared.done.Done.{Done}
use Rattle.dcc_model.specs.Keys.{request_key, is_expiry}
use Rattle.dcc_model.specs.Outcomes.{is_new, counts, first_of, is_made, decided, unknown_of, settled, has_account, judged, history, act_made, after, outcome, acts}

settled_where : (account : Bool) (k : Kind) (outcome : Outcome) → (account || is_none (request_key k)) ≡ true → cond account outcome (unwrap_or (unknown_of k) outcome) ≡ outcome
settled_where true k outcome h = refl
settled_where false (kind.TopUp top_up) outcome h = refl
settled_where false (kind.Initial opening limit host) outcome h = absurd cc
settled_where false (kind.Update report) outcome h = absurd cc
settled_where false (kind.Termination report) outcome h = absurd cc
settled_where false (kind.Event event) outcome h = absurd cc
settled_where false kind.Expiry outcome h = refl

from_none : (first : Option Done) (rest : Outcome) → is_none first ≡ true → option_map_or (λ (done : Done). done.outcome) first rest ≡ rest
from_none None rest h = refl
from_none (Some done) rest h = absurd cc

-- where an act counts, it is settled
pub judged_counted : (terms : TermsView) (past : List Done) (act : Act) → counts past act.kind ≡ true → judged terms past act ≡ settled terms past act
judged_counted terms past act counted = settled_where (has_account past) act.kind (settled terms past act) counted

-- what counts and whose key is new comes to what its kind decides
judged_first : (terms : TermsView) (past : List Done) (act : Act) → (counts past act.kind && is_none (first_of past act.kind)) ≡ true → judged terms past act ≡ decided terms past act.moment act.kind
judged_first terms past act new =
    let parts = and_parts (counts past act.kind) (is_none (first_of past act.kind)) new in
    judged_counted terms past act parts.0 ∙ from_none (first_of past act.kind) (decided terms past act.moment act.kind) parts.1

-- an expiry has no key
pub expiry_first : (past : List Done) → first_of past kind.Expiry ≡ None
expiry_first [] = refl
expiry_first (done ∷ past) = expiry_first past

or_true : (a : Bool) → (a || true) ≡ true
or_true true = refl
or_true false = refl

judged_expiry : (terms : TermsView) (past : List Done) (act : Act) → first_of past act.kind ≡ None → counts past act.kind ≡ true → judged terms past act ≡ decided terms past act.moment act.kind
judged_expiry terms past act none counted =
    judged_counted terms past act counted ∙ from_none (first_of past act.kind) (decided terms past act.moment act.kind) (ap (λ (first : Option Done). is_none first) none)

judged_made : (terms : TermsView) (past : List Done) (moment : ℕ) (k : Kind) → is_made terms past (record { moment = moment; kind = k }) ≡ true → judged terms past (record { moment = moment; kind = k }) ≡ decided terms past moment k
judged_made terms past moment (kind.TopUp top_up) h = judged_first terms past (record { moment = moment; kind = kind.TopUp top_up }) h
judged_made terms past moment (kind.Initial opening limit host) h = judged_first terms past (record { moment = moment; kind = kind.Initial opening limit host }) h
judged_made terms past moment (kind.Update report) h = judged_first terms past (record { moment = moment; kind = kind.Update report }) h
judged_made terms past moment (kind.Termination report) h = judged_first terms past (record { moment = moment; kind = kind.Termination report }) h
judged_made terms past moment (kind.Event event) h = judged_first terms past (record { moment = moment; kind = kind.Event event }) h
judged_made terms past moment kind.Expiry h = judged_expiry terms past (record { moment = moment; kind = kind.Expiry }) (expiry_first past) (or_true (has_account past))

-- what is made comes to what its kind decides
pub judged_new : (terms : TermsView) (past : List Done) (act : Act) → is_made terms past act ≡ true → judged terms past act ≡ decided terms past act.moment act.kind
judged_new terms past act new = judged_made terms past act.moment act.kind new

-- what is made and no expiry counts, and its key is new
pub made_parts : (terms : TermsView) (past : List Done) (act : Act) → is_expiry act.kind ≡ false → is_made terms past act ≡ true → (counts past act.kind ≡ true) × (is_none (first_of past act.kind) ≡ true)
made_parts terms past act other new = and_parts (counts past act.kind) (is_none (first_of past act.kind)) (rw other at new)

pub history_of_made : (terms : TermsView) (all : List Act) → history terms (map act_made (history terms all)) ≡ history terms all
history_of_made terms [] = refl
history_of_made terms (act ∷ all) =
    elim (cases_Bool (is_made terms (history terms all) act)) [
      | inl t ↦ rw (t, history_of_made terms all, t) refl
      | inr f ↦ rw f (history_of_made terms all)
    ]

-- whatever comes later
pub history_after : (terms : TermsView) (later all : List Act) → history terms (later ++ map act_made (history terms all)) ≡ history terms (later ++ all)
history_after terms [] all = history_of_made terms all
history_after terms (act ∷ later) all = rw (history_after terms later all) refl

-- the history of the acts of a list, and of more behind, is that of the list
pub history-acts : (terms : TermsView) (all more : List Act) → history terms (reverse (acts terms all ++ more)) ≡ history terms (reverse (all ++ more))
unfolding acts
history-acts terms all more =
    let made = map act_made (history terms (reverse all)) in
    let turned : reverse (reverse made ++ more) ≡ reverse more ++ made = reverse-append (reverse made) more ∙ ap (λ (zs : List Act). reverse more ++ zs) (reverse-reverse made) in
    ap (history terms) turned ∙ history_after terms (reverse more) (reverse all) ∙ ap (history terms) (sym (reverse-append all more))

pub acts_by_history : (terms : TermsView) (xs ys : List Act) → history terms (reverse xs) ≡ history terms (reverse ys) → acts terms xs ≡ acts terms ys
unfolding acts
acts_by_history terms xs ys same = ap (λ (past : List Done). reverse (map act_made past)) same

pub slice_get-behind : (xs ys : List Act) (k : ℕ) → slice_get (xs ++ ys) (length xs + k) ≡ slice_get ys k
slice_get-behind [] ys k = ap (slice_get ys) (omega arith)
slice_get-behind (x ∷ xs) ys k =
    let next : suc (length xs) + k ≡ suc (length xs + k) = omega arith in
    ap (slice_get (x ∷ (xs ++ ys))) next ∙ slice_get-behind xs ys k

pub slice_get-before : (xs ys : List Act) (k : ℕ) → k < length xs → slice_get (xs ++ ys) k ≡ slice_get xs k
slice_get-before [] ys k h = absurd (omega arith)
slice_get-before (x ∷ xs) ys zero h = refl
slice_get-before (x ∷ xs) ys (suc k) h = slice_get-before xs ys k (omega arith)

-- what one more act comes to looks at the history alone
pub after_by_history : (terms : TermsView) (xs ys : List Act) (act : Act) → history terms (reverse xs) ≡ history terms (reverse ys) → after terms xs act ≡ after terms ys act
unfolding after
after_by_history terms xs ys act same = ap (λ (past : List Done). judged terms past act) same

pub outcome-suc : (terms : TermsView) (all : List Act) (n : ℕ) → outcome terms all (n + 1) ≡ option_map (after terms (take n all)) (slice_get all n)
unfolding outcome
outcome-suc terms all n = rw add-one refl

-- what stands at a place behind a list comes to what it comes to after the list and what is between
pub outcome_behind : (terms : TermsView) (xs ys : List Act) (k : ℕ) → outcome terms (xs ++ ys) (length xs + (k + 1)) ≡ option_map (after terms (xs ++ take k ys)) (slice_get ys k)
outcome_behind terms xs ys k =
    let at : length xs + (k + 1) ≡ (length xs + k) + 1 = omega arith in
    ap (outcome terms (xs ++ ys)) at ∙ outcome-suc terms (xs ++ ys) (length xs + k)
    ∙ ap (λ (before : List Act). option_map (after terms before) (slice_get (xs ++ ys) (length xs + k))) (take-append-add xs ys k)
    ∙ ap (λ (found : Option Act). option_map (after terms (xs ++ take k ys)) found) (slice_get-behind xs ys k)

pub outcome_last : (terms : TermsView) (xs : List Act) (act : Act) → outcome terms (xs ++ act ∷ []) (length xs + 1) ≡ Some (after terms xs act)
outcome_last terms xs act = outcome_behind terms xs (act ∷ []) 0 ∙ ap (λ (before : List Act). Some (after terms before act)) (append-nil xs)

pub outcome_before : (terms : TermsView) (xs ys : List Act) (k : ℕ) → k ≤ length xs → outcome terms (xs ++ ys) k ≡ outcome terms xs k
unfolding outcome
outcome_before terms xs ys zero within = refl
outcome_before terms xs ys (suc k) within =
    let le : k ≤ length xs = omega arith in
    rw (take-append-le k xs ys le, slice_get-before xs ys k (omega arith)) refl

-- one more act stands behind the others where it is made
one_more_made : (terms : TermsView) (before : List Act) (act : Act)
    → reverse (map act_made (history terms (act ∷ before)))
    ≡ cond (is_made terms (history terms before) act) (reverse (map act_made (history terms before)) ++ act ∷ []) (reverse (map act_made (history terms before)))
one_more_made terms before act =
    elim (cases_Bool (is_made terms (history terms before) act)) [
      | inl t ↦ rw t (reverse-append (act ∷ []) (map act_made (history terms before)))
      | inr f ↦ rw f refl
    ]

pub one_more : (terms : TermsView) (xs : List Act) (act : Act) → acts terms (xs ++ act ∷ []) ≡ cond (is_new terms xs act) (acts terms xs ++ act ∷ []) (acts terms xs)
unfolding acts is_new
one_more terms xs act =
    let turned : reverse (xs ++ act ∷ []) ≡ act ∷ reverse xs = reverse-append xs (act ∷ []) in
    ap (λ (all : List Act). reverse (map act_made (history terms all))) turned ∙ one_more_made terms (reverse xs) act

-- the history of the acts is that of the list
pub history_of_acts : (terms : TermsView) (xs : List Act) → history terms (reverse (acts terms xs)) ≡ history terms (reverse xs)
history_of_acts terms xs =
    ap (λ (zs : List Act). history terms (reverse zs)) (sym (append-nil (acts terms xs))) ∙ history-acts terms xs [] ∙ ap (λ (zs : List Act). history terms (reverse zs)) (append-nil xs)
