-- What acts that were made came to is what is defined at their places.
use Rattle.std.proofs.Common.{◌≡◌, ℕ, zero, suc, ◌+◌, ◌-◌, ◌<◌, ◌≤◌, ◌==◌, Bool, true, false, cond, List, [], ◌∷◌, ◌++◌, length, map, reverse, take, drop, get_or, slice_get, Option, Some, None, option_map, refl, sym, ap, ◌∙◌, subst, inl, inr, arith, append_assoc, length-append, drop-cons}
use Rattle.std.proofs.lemmas.Bool.{cases_Bool}
use Rattle.std.proofs.lemmas.Grind.{common_steps}
use Rattle.std.proofs.lemmas.List.{reverse-append, reverse-reverse, map-append, take-append-drop, get_or-map, length-map, take-map}
use Rattle.std.proofs.lemmas.Option.{slice_get_read, slice_get_past}
use Rattle.dcc_tariff.specs.Terms.{TermsView}
use Rattle.dcc_act.specs.declared.act.Act.{Act}
use Rattle.dcc_act.specs.declared.outcome.Outcome.{Outcome}
use Rattle.dcc_message.specs.declared.identity.Identity.{Identity}
use Rattle.dcc_receipts.specs.Audit.{is_answered, tells}
use Rattle.dcc_receipts.specs.declared.receipt.Receipt.{Receipt}
use Rattle.dcc_model.specs.declared.done.Done.{Done}
use Rattle.dcc_model.specs.Outcomes.{act_made, outcome_of, history, with_act, is_made, judged, after, outcome, acts}

-- acts, the latest first, each with what it came to after those before
abbrev IsPast : TermsView → List Done → Type 0
IsPast terms past = past ≡ history terms (map act_made past)

length_history : (terms : TermsView) (xs : List Act) → length (history terms xs) ≤ length xs
length_history terms [] = omega arith
length_history terms (x ∷ xs) =
    let h = history terms xs in
    let le = length_history terms xs in
    elim (cases_Bool (is_made terms h x)) [
      | inl made ↦ rw made (omega (arith, le))
      | inr not_made ↦ rw not_made (omega (arith, le))
    ]

abbrev tail_of : List Done → List Done
tail_of [] = []
tail_of (d ∷ rest) = rest

abbrev head_of : Done → List Done → Outcome
head_of none [] = none.outcome
head_of none (d ∷ rest) = d.outcome

-- the latest came to what is judged of it after the others, which are such acts too
step : (terms : TermsView) (d : Done) (rest : List Done) → IsPast terms (d ∷ rest) → (d.outcome ≡ judged terms rest d.act) × IsPast terms rest
step terms d rest is =
    let h : List Done = history terms (map act_made rest) in
    elim (cases_Bool (is_made terms h d.act)) [
      | inl made ↦
          let e : d ∷ rest ≡ record { act = d.act; outcome = judged terms h d.act } ∷ h = is ∙ rw made refl in
          let same : rest ≡ h = ap tail_of e in
          (ap (head_of d) e ∙ ap (λ (past : List Done). judged terms past d.act) (sym same), same)
      | inr not_made ↦
          let e : d ∷ rest ≡ h = is ∙ rw not_made refl in
          let n : length (d ∷ rest) ≡ length h = ap (λ (l : List Done). length l) e in
          let le = length_history terms (map act_made rest) in
          absurd (grind (arith, common_steps))
    ]

suffix : (terms : TermsView) (later : List Done) (d : Done) (rest : List Done) → IsPast terms (later ++ d ∷ rest) → IsPast terms (d ∷ rest)
suffix terms [] d rest is = is
suffix terms (l ∷ later) d rest is = suffix terms later d rest (step terms l (later ++ d ∷ rest) is).1

reverse-map : (xs : List Done) → reverse (map act_made xs) ≡ map act_made (reverse xs)
reverse-map [] = refl
reverse-map (x ∷ xs) =
    reverse-append (act_made x ∷ []) (map act_made xs) ∙ ap (λ (l : List Act). l ++ act_made x ∷ []) (reverse-map xs)
    ∙ (sym (map-append act_made (reverse xs) (x ∷ [])) ∙ ap (map act_made) (sym (reverse-append (x ∷ []) xs)))

-- the acts of a list at a place, of those before it, and of the others
parts : (made : List Done) (k : ℕ) (d : Done) → k < length made → d ≡ get_or made k d → reverse made ≡ reverse (drop (suc k) made) ++ d ∷ reverse (take k made)
parts made k d within at =
    let e : drop k made ≡ d ∷ drop (suc k) made = drop-cons made k d within ∙ ap (λ x. x ∷ drop (suc k) made) (sym at) in
    ap reverse (sym (take-append-drop k made) ∙ ap (λ l. take k made ++ l) e) ∙ (reverse-append (take k made) (d ∷ drop (suc k) made)
    ∙ (ap (λ l. l ++ reverse (take k made)) (reverse-append (d ∷ []) (drop (suc k) made)) ∙ append_assoc (reverse (drop (suc k) made)) (d ∷ []) (reverse (take k made))))

-- so at each place stands what its act came to
outcome_at : (terms : TermsView) (made : List Done) (k : ℕ) (d : Done) → reverse made ≡ history terms (reverse (map act_made made))
    → k < length made → d ≡ get_or made k d → outcome terms (map act_made made) (suc k) ≡ Some d.outcome
unfolding outcome after
outcome_at terms made k d is within at =
    let before : List Done = reverse (take k made) in
    let whole : IsPast terms (reverse (drop (suc k) made) ++ d ∷ before) =
    let P : List Done → Type 0 = IsPast terms in subst P (parts made k d within at) (is ∙ ap (history terms) (reverse-map made)) in
    let s = step terms d before (suffix terms (reverse (drop (suc k) made)) d before whole) in
    let there : slice_get (map act_made made) k ≡ Some d.act =
    slice_get_read (map act_made made) (length (map act_made made)) k d.act refl (omega (arith, length-map made act_made)) (ap act_made at ∙ sym (get_or-map act_made made k d d.act within)) in
    let h : history terms (reverse (take k (map act_made made))) ≡ before =
    ap (λ (l : List Act). history terms (reverse l)) (take-map act_made k made) ∙ (ap (history terms) (reverse-map (take k made)) ∙ sym s.1) in
    rw there (ap Some (ap (λ (past : List Done). judged terms past d.act) h ∙ sym s.0))

-- acts that are their own, each with what it came to
abbrev made_of : TermsView → List Act → List Done
made_of terms all = reverse (history terms (reverse all))

own_made : (terms : TermsView) (all : List Act) → acts terms all ≡ all → map act_made (made_of terms all) ≡ all
unfolding acts
own_made terms all own = sym (reverse-map (history terms (reverse all))) ∙ own

own_past : (terms : TermsView) (all : List Act) → acts terms all ≡ all → reverse (made_of terms all) ≡ history terms (reverse (map act_made (made_of terms all)))
own_past terms all own = reverse-reverse (history terms (reverse all)) ∙ ap (λ (xs : List Act). history terms (reverse xs)) (sym (own_made terms all own))

reverse-came : (xs : List Done) → reverse (map outcome_of xs) ≡ map outcome_of (reverse xs)
reverse-came [] = refl
reverse-came (x ∷ xs) =
    reverse-append (x.outcome ∷ []) (map outcome_of xs) ∙ ap (λ (l : List Outcome). l ++ x.outcome ∷ []) (reverse-came xs)
    ∙ (sym (map-append outcome_of (reverse xs) (x ∷ [])) ∙ ap (map outcome_of) (sym (reverse-append (x ∷ []) xs)))

stands : (made : List Done) (k : ℕ) → k < length made → (d : Done) × (d ≡ get_or made k d)
stands [] k within = absurd (omega (arith, within))
stands (d ∷ made) zero within = (d, refl)
stands (d ∷ made) (suc k) within = let rest = stands made k (omega (arith, within)) in (rest.0, rest.1)

-- so a receipt is answered where it was told what stands at its place
pub answered_at : (identity : Identity) (terms : TermsView) (all : List Act) (outcomes : List Outcome) (r : Receipt) (come : Outcome) → acts terms all ≡ all
    → outcomes ≡ reverse (map outcome_of (history terms (reverse all))) → 0 < r.place → r.place ≤ length outcomes → come ≡ get_or outcomes (r.place - 1) come
    → is_answered identity terms all r ≡ tells identity terms r r.answer come
answered_at identity terms all outcomes r come own came some within at =
    let made = made_of terms all in
    let same : outcomes ≡ map outcome_of made = came ∙ reverse-came (history terms (reverse all)) in
    let many : length outcomes ≡ length made = ap (λ (xs : List Outcome). length xs) same ∙ length-map made outcome_of in
    let there = stands made (r.place - 1) (omega (arith, many)) in
    let d = there.0 in
    let is : d.outcome ≡ come =
    ap outcome_of there.1 ∙ sym (get_or-map outcome_of made (r.place - 1) d come (omega (arith, many))) ∙ ap (λ (xs : List Outcome). get_or xs (r.place - 1) come) (sym same) ∙ sym at in
    let place : suc (r.place - 1) ≡ r.place = omega arith in
    let found : outcome terms all r.place ≡ Some come =
    ap (outcome terms all) (sym place) ∙ ap (λ (xs : List Act). outcome terms xs (suc (r.place - 1))) (sym (own_made terms all own))
    ∙ outcome_at terms made (r.place - 1) d (own_past terms all own) (omega (arith, many)) there.1 ∙ ap Some is in
    let no : (r.place == 0) ≡ false = grind (arith, common_steps) in
    rw (no, found) refl

nothing_past : (terms : TermsView) (all : List Act) (k : ℕ) → length all ≤ k → outcome terms all (suc k) ≡ None
unfolding outcome
nothing_past terms all k past = rw (slice_get_past all k past) refl

pub answered_past : (identity : Identity) (terms : TermsView) (all : List Act) (outcomes : List Outcome) (r : Receipt) → acts terms all ≡ all
    → outcomes ≡ reverse (map outcome_of (history terms (reverse all))) → 0 < r.place → length outcomes < r.place → is_answered identity terms all r ≡ false
answered_past identity terms all outcomes r own came some past =
    let made = made_of terms all in
    let came_many : length outcomes ≡ length made = ap (λ (xs : List Outcome). length xs) (came ∙ reverse-came (history terms (reverse all))) ∙ length-map made outcome_of in
    let made_many : length all ≡ length made = sym (ap (λ (xs : List Act). length xs) (own_made terms all own)) ∙ length-map made act_made in
    let place : suc (r.place - 1) ≡ r.place = omega arith in
    let come : outcome terms all r.place ≡ None =
    ap (outcome terms all) (sym place) ∙ nothing_past terms all (r.place - 1) (omega (arith, came_many, made_many)) in
    let no : (r.place == 0) ≡ false = grind (arith, common_steps) in
    rw (no, come) refl
