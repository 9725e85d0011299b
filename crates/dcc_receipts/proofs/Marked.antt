-- Places that are marked are those of the fresh receipts so far.
use Rattle.std.proofs.Common.{◌≡◌, ℕ, ◌+◌, ◌<◌, ◌≤◌, true, false, cond, ◌&&◌, ◌==◌, nat_eq, List, [], ◌∷◌, length, take, get_or, refl, sym, ap, ◌∙◌, inl, inr, arith}
use Rattle.std.specs.List.{sum_by}
use Rattle.std.proofs.lemmas.Bool.{cases_Bool}
use Rattle.std.proofs.lemmas.Grind.{common_steps}
use Rattle.std.proofs.lemmas.List.Sums.{sum_by-cons, sum_by_more, sum_by-take-le}
use Rattle.dcc_act.specs.declared.sub.Sub.{Sub}
use Rattle.dcc_act.specs.Subs.{same_sub, SameAreEqual}
use Rattle.dcc_receipts.specs.Audit.{own, times}
use Rattle.dcc_receipts.specs.Marks.{MarksView, is_marked}
use Rattle.dcc_receipts.specs.inner.Spots.{is_of}
use Rattle.dcc_receipts.specs.declared.receipt.Receipt.{Receipt}

abbrev one_of : Sub → ℕ → Receipt → ℕ
one_of sub place r = cond (is_of sub place r) 1 0

abbrev fresh_at : ℕ → Receipt → ℕ
fresh_at place r = cond (r.fresh && (r.place == place)) 1 0

times_own : (sub : Sub) (place : ℕ) (receipts : List Receipt) → times place (own sub receipts) ≡ sum_by (one_of sub place) receipts
times_own sub place [] = refl
times_own sub place (r ∷ rest) =
    elim (cases_Bool (same_sub r.sub sub)) [
      | inl mine ↦
          let o : own sub (r ∷ rest) ≡ r ∷ own sub rest = rw mine refl in
          let f : one_of sub place r ≡ fresh_at place r = rw mine refl in
          ap (times place) o ∙ sum_by-cons (fresh_at place) r (own sub rest)
          ∙ (ap (λ n. fresh_at place r + n) (times_own sub place rest) ∙ (ap (λ n. n + sum_by (one_of sub place) rest) (sym f) ∙ sym (sum_by-cons (one_of sub place) r rest)))
      | inr other ↦
          let o : own sub (r ∷ rest) ≡ own sub rest = rw other refl in
          let f : one_of sub place r ≡ 0 = rw other refl in
          let s = sum_by-cons (one_of sub place) r rest in
          let t = times_own sub place rest in
          ap (times place) o ∙ omega (arith, f, s, t)
    ]

-- one receipt more
pub more : (sub : Sub) (place : ℕ) (receipts : List Receipt) (i : ℕ) (r : Receipt) → i < length receipts → r ≡ get_or receipts i r
    → times place (own sub (take (i + 1) receipts)) ≡ times place (own sub (take i receipts)) + cond (is_of sub place r) 1 0
more sub place receipts i r within is =
    let e : one_of sub place (get_or receipts i r) ≡ one_of sub place r = ap (one_of sub place) (sym is) in
    times_own sub place (take (i + 1) receipts) ∙ (sum_by_more (one_of sub place) receipts i r within
    ∙ (ap (λ n. sum_by (one_of sub place) (take i receipts) + n) e ∙ ap (λ n. n + one_of sub place r) (sym (times_own sub place (take i receipts)))))

pub fewer : (sub : Sub) (place : ℕ) (receipts : List Receipt) (i : ℕ) → times place (own sub (take i receipts)) ≤ times place (own sub receipts)
fewer sub place receipts i =
    let a = times_own sub place (take i receipts) in
    let b = times_own sub place receipts in
    let le = sum_by-take-le (one_of sub place) receipts i in
    omega (arith, a, b, le)

-- a new place is marked once
pub marked_more : SameAreEqual → (marks new : MarksView) (r : Receipt) → r.fresh ≡ true → is_marked marks r.sub r.place ≡ false
    → ((other : Sub) (at : ℕ) → is_marked new other at ≡ cond (same_sub r.sub other && nat_eq r.place at) true (is_marked marks other at))
    → (sub : Sub) (place : ℕ) → cond (is_marked new sub place) 1 0 ≡ cond (is_marked marks sub place) 1 0 + cond (is_of sub place r) 1 0
marked_more same marks new r fresh unmarked updates sub place =
    let u = updates sub place in
    elim (cases_Bool (same_sub r.sub sub)) [
      | inl mine ↦ elim (cases_Bool (nat_eq r.place place)) [
        | inl here ↦
            let s : r.sub ≡ sub = (same r.sub sub).0 mine in
            let p : r.place ≡ place = grind (arith, common_steps) in
            let old : is_marked marks sub place ≡ false = rw (← s, ← p) unmarked in
            rw (u, old, mine, here, fresh) refl
        | inr elsewhere ↦ rw (u, mine, elsewhere, fresh) (omega arith)
      ]
      | inr other ↦ rw (u, other) (omega arith)
    ]

-- the receipt is of its own place
pub of_own : SameAreEqual → (r : Receipt) → r.fresh ≡ true → is_of r.sub r.place r ≡ true
of_own same r fresh =
    let s : same_sub r.sub r.sub ≡ true = (same r.sub r.sub).1 refl in
    rw (s, fresh) (grind (arith, common_steps))
