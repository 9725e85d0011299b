-- The marks of reported shards.
use Rattle.std.proofs.Common.{◌≡◌, ℕ, suc, zero, ◌+◌, ◌<◌, inl, inr, Bool, true, false, true≢false, List, [], ◌∷◌, nat_lt, slice_index_or, slice_set, sym, subst, arith}
use Rattle.std.proofs.lemmas.Bool.{cases_Bool}
use Rattle.std.proofs.lemmas.Bool.Decides.{nat_tests}
use Rattle.dcc_rounds.specs.inner.Watching.{AreMarked}

-- no mark stands
pub none_marked : (P : ℕ → Type 0) (k : ℕ) → AreMarked P k (false ∷ false ∷ false ∷ false ∷ false ∷ false ∷ false ∷ false ∷ [])
none_marked P k =
    let no : (n : ℕ) → false ≡ true → P n = λ n is. absurd (true≢false (sym is)) in
    (no k, (no (k + 1), (no (k + 1 + 1), (no (k + 1 + 1 + 1), (no (k + 1 + 1 + 1 + 1), (no (k + 1 + 1 + 1 + 1 + 1), (no (k + 1 + 1 + 1 + 1 + 1 + 1), (no (k + 1 + 1 + 1 + 1 + 1 + 1 + 1), tt))))))))

-- one mark is set anew
marked_from : (P : ℕ → Type 0) (k : ℕ) (marks : List Bool) (i : ℕ) (mark : Bool) → AreMarked P k marks → (mark ≡ true → P (k + i)) → AreMarked P k (slice_set marks i mark)
marked_from P k [] i mark all h = tt
marked_from P k (m ∷ marks) zero mark all h = let here : k + 0 ≡ k = omega arith in (λ is. subst P here (h is), all.1)
marked_from P k (m ∷ marks) (suc i) mark all h =
    let there : k + suc i ≡ (k + 1) + i = omega arith in (all.0, marked_from P (k + 1) marks i mark all.1 (λ is. subst P there (h is)))

pub marked_on : (P : ℕ → Type 0) (marks : List Bool) (i : ℕ) (mark : Bool) → AreMarked P 0 marks → (mark ≡ true → P i) → AreMarked P 0 (slice_set marks i mark)
marked_on P marks i mark all h = let here : i ≡ 0 + i = omega arith in marked_from P 0 marks i mark all (λ is. subst P here (h is))

told_from : (P : ℕ → Type 0) (k : ℕ) (marks : List Bool) (i : ℕ) → AreMarked P k marks → slice_index_or marks i false ≡ true → P (k + i)
told_from P k [] i all is = absurd (true≢false (sym is))
told_from P k (m ∷ marks) zero all is = let here : k ≡ k + 0 = omega arith in subst P here (all.0 is)
told_from P k (m ∷ marks) (suc i) all is = let there : (k + 1) + i ≡ k + suc i = omega arith in subst P there (told_from P (k + 1) marks i all.1 is)

-- the stop of a marked shard was reported
pub told_at : (P : ℕ → Type 0) (marks : List Bool) (i : ℕ) → AreMarked P 0 marks → slice_index_or marks i false ≡ true → P i
told_at P marks i all is = let here : 0 + i ≡ i = omega arith in subst P here (told_from P 0 marks i all is)

-- one shard more
pub watched_on : (W : ℕ → Type 0) (n : ℕ) → ((i : ℕ) → i < n → W i) → W n → (i : ℕ) → i < n + 1 → W i
watched_on W n before here i few =
    elim (cases_Bool (nat_lt i n)) [
      | inl t ↦ let less : i < n = grind (arith, nat_tests, t) in before i less
      | inr f ↦ let same : n ≡ i = grind (arith, nat_tests, f, few) in subst W same here
    ]
