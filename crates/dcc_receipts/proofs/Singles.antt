-- That no place has two fresh receipts, receipt by receipt and place by place.
use Rattle.std.proofs.Common.{◌≡◌, ℕ, zero, suc, ◌+◌, ◌<◌, ◌≤◌, Bool, true, false, not, cond, ◌&&◌, ◌||◌, ◌==◌, nat_lt, nat_le, List, [], ◌∷◌, refl, sym, ap, ◌∙◌, arith, inl, inr}
use Rattle.std.specs.List.{list_all}
use Rattle.std.proofs.lemmas.Bool.{cases_Bool}
use Rattle.std.proofs.lemmas.Grind.{common_steps}
use Rattle.std.proofs.lemmas.List.Sums.{sum_by-cons}
use Rattle.dcc_receipts.specs.Audit.{times}
use Rattle.dcc_receipts.specs.inner.Singles.{are_single}
use Rattle.dcc_receipts.specs.declared.receipt.Receipt.{Receipt}

-- one receipt more
abbrev count : Bool → ℕ → ℕ
count one n = cond one 1 0 + n

times-cons : (place : ℕ) (r : Receipt) (rest : List Receipt) → times place (r ∷ rest) ≡ count (r.fresh && (r.place == place)) (times place rest)
times-cons place r rest = sum_by-cons (λ (x : Receipt). cond (x.fresh && (x.place == place)) 1 0) r rest

first_of : (fresh : Bool) (a place n : ℕ) → not fresh || nat_le n 1 ≡ true → fresh && (a == place) ≡ true → n ≤ 1
first_of true a place n le is = grind (arith, common_steps)
first_of false a place n le is = grind (arith, common_steps)

here_is : (a place : ℕ) (fresh : Bool) → fresh && (a == place) ≡ true → a ≡ place
here_is a place fresh is = grind (arith, common_steps)

found : (all receipts : List Receipt) (place : ℕ) → are_single all receipts ≡ true → 0 < times place receipts → times place all ≤ 1
found all [] place single some = absurd (omega arith)
found all (r ∷ rest) place single some =
    elim (cases_Bool (r.fresh && (r.place == place))) [
      | inl here ↦
          let le : times r.place all ≤ 1 = first_of r.fresh r.place place (times r.place all) (grind (arith, common_steps)) here in
          rw (sym (here_is r.place place r.fresh here)) le
      | inr elsewhere ↦
          let c = times-cons place r rest in
          let n : count (r.fresh && (r.place == place)) (times place rest) ≡ 0 + times place rest = ap (λ b. count b (times place rest)) elsewhere in
          found all rest place (grind (arith, common_steps)) (omega (arith, c, n, some))
    ]

one : (n : ℕ) → (0 < n → n ≤ 1) → n ≤ 1
one zero le = omega arith
one (suc n) le = le (omega arith)

pub singles : (receipts : List Receipt) → are_single receipts receipts ≡ true → (place : ℕ) → times place receipts ≤ 1
singles receipts single place = one (times place receipts) (found receipts receipts place single)

each : (all receipts : List Receipt) → ((place : ℕ) → times place all ≤ 1) → are_single all receipts ≡ true
each all [] single = refl
each all (r ∷ rest) single =
    let le = single r.place in
    let rest_is = each all rest single in
    let t : nat_le (times r.place all) 1 ≡ true = grind (arith, common_steps) in
    grind (arith, common_steps)

pub doubles : (receipts : List Receipt) → are_single receipts receipts ≡ false → ((place : ℕ) → times place receipts ≤ 1) → ⊥
doubles receipts double single = let yes = each receipts receipts single in grind (arith, common_steps)
