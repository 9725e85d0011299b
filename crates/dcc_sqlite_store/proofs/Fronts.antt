-- Acts that are their own, one after another.
use Rattle.std.proofs.Common.{◌≡◌, ◌+◌, ◌<◌, ◌≤◌, ℕ, Bool, true, false, cond, List, [], ◌∷◌, ◌++◌, length, take, drop, get_or, sym, ap, subst, ◌∙◌, arith, append-nil, append_assoc}
use Rattle.std.proofs.lemmas.List.{length-append, append_cancel_right, take-append-drop}
use Rattle.dcc_tariff.specs.Terms.{TermsView}
use Rattle.dcc_act.specs.declared.act.Act.{Act}
use Rattle.dcc_model.specs.Outcomes.{acts, is_new}
use Rattle.dcc_model.specs.Laws.{OneMoreAct, NoActs as NoneMade}
use Rattle.dcc_sqlite_store.proofs.Gathering.{one_taken}

module _ (one : OneMoreAct) (none : NoneMade) (terms : TermsView) where
  one_at_most : (xs : List Act) (y : Act) (b : Bool) (made : List Act) → made ≡ cond b (acts terms xs ++ y ∷ []) (acts terms xs) → length made ≤ length (acts terms xs) + 1
  one_at_most xs y true made e = let l = length-append (acts terms xs) (y ∷ []) in let m = ap length e in omega (arith, l, m)
  one_at_most xs y false made e = let m = ap length e in omega (arith, m)

  few_behind : (xs ys : List Act) → length (acts terms (xs ++ ys)) ≤ length (acts terms xs) + length ys
  few_behind xs [] = let e = ap (λ (l : List Act). length (acts terms l)) (append-nil xs) in omega (arith, e)
  few_behind xs (y ∷ ys) =
      let e : length (acts terms (xs ++ y ∷ ys)) ≡ length (acts terms ((xs ++ y ∷ []) ++ ys)) = ap (λ (l : List Act). length (acts terms l)) (sym (append_assoc xs (y ∷ []) ys)) in
      let rest = few_behind (xs ++ y ∷ []) ys in
      let more = one_at_most xs y (is_new terms xs y) (acts terms (xs ++ y ∷ [])) (one terms xs y) in
      omega (arith, e, rest, more)

  few : (xs : List Act) → length (acts terms xs) ≤ length xs
  few xs = let h = few_behind [] xs in let n = ap length (none terms) in omega (arith, h, n)

  by_new : (xs : List Act) (y : Act) (b : Bool) → xs ++ y ∷ [] ≡ cond b (acts terms xs ++ y ∷ []) (acts terms xs) → acts terms xs ≡ xs
  by_new xs y true e = append_cancel_right (acts terms xs) xs (y ∷ []) (sym e)
  by_new xs y false e = absurd (let n = ap length e in let l = length-append xs (y ∷ []) in let f = few xs in omega (arith, n, l, f))

  last_own : (xs : List Act) (y : Act) → acts terms (xs ++ y ∷ []) ≡ xs ++ y ∷ [] → acts terms xs ≡ xs
  last_own xs y own = by_new xs y (is_new terms xs y) (sym own ∙ one terms xs y)

  -- what stands first of acts that are their own are their own
  front_own : (xs ys : List Act) → acts terms (xs ++ ys) ≡ xs ++ ys → acts terms xs ≡ xs
  front_own xs [] own = subst (λ (l : List Act). acts terms l ≡ l) (append-nil xs) own
  front_own xs (y ∷ ys) own = last_own xs y (front_own (xs ++ y ∷ []) ys (subst (λ (l : List Act). acts terms l ≡ l) (sym (append_assoc xs (y ∷ []) ys)) own))

  -- the account makes each
  pub made_next : (all : List Act) (i : ℕ) (act : Act) (before after : List Act) → i < length all → act ≡ get_or all i act → acts terms all ≡ all → before ≡ take i all → after ≡ acts terms (before ++ act ∷ []) → after ≡ take (i + 1) all
  made_next all i act before after below is own so_far made =
      let next : take (i + 1) all ≡ take i all ++ act ∷ [] = one_taken terms [] all i act below is in
      let whole : acts terms (take (i + 1) all ++ drop (i + 1) all) ≡ take (i + 1) all ++ drop (i + 1) all = subst (λ (l : List Act). acts terms l ≡ l) (sym (take-append-drop (i + 1) all)) own in
      made ∙ ap (λ (l : List Act). acts terms (l ++ act ∷ [])) so_far ∙ ap (acts terms) (sym next) ∙ front_own (take (i + 1) all) (drop (i + 1) all) whole
