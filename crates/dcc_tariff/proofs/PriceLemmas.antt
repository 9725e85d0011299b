-- The least number of blocks is a quotient rounded up, and the greatest amount that is covered is a number of whole blocks.
use Rattle.std.proofs.Common.{◌≡◌, ℕ, zero, suc, ◌+◌, ◌*◌, ◌/◌, ◌%◌, ◌^◌, ◌<◌, ◌≤◌, min, Bool, true, false, nat_le, ℤ, refl, sym, ap}
use Rattle.std.proofs.Common.{◌∙◌, arith, inl, inr, le-leb}
use Rattle.std.proofs.lemmas.Grind.{div_ceil_times}
use Rattle.std.proofs.lemmas.Bool.{cases_lt, cases_Bool, cond_both, cond-true, cond-false}
use Rattle.std.proofs.lemmas.Bool.Decides.{nat_tests}
use Rattle.std.proofs.lemmas.Nat.{mul-le}
use Rattle.std.proofs.Math.Nat.{lt_of_mul-lt-mul_right, div-mul-le_self, lt-div-mul-add, mul-le-mul_right, le-mul_of_pos_right}
use Rattle.std.proofs.Math.Nat.{mul-le-mul_left}
use Rattle.dcc_tariff.specs.Terms.{TariffView, IsTariff}
use Rattle.dcc_tariff.specs.Prices.{least, greatest, blocks, price, covers, best}

pub least_le : (passes : ℕ → Bool) (n : ℕ) → least passes n ≤ n
unfolding least
least_le passes zero = omega arith
least_le passes (suc n) =
    let up = least_le passes n in
    cond_both (passes (least passes n)) (least passes n) (suc n) (λ m. m ≤ suc n) (λ _. omega arith) (λ _. omega arith)

-- the number that passes, where none below it does
pub least-is : (passes : ℕ → Bool) (n c : ℕ) → c ≤ n → passes c ≡ true → ((k : ℕ) → k < c → passes k ≡ false) → least passes n ≡ c
unfolding least
least-is passes zero c up here below = omega arith
least-is passes (suc n) c up here below =
    elim (cases_lt n c) [
      | inl last ↦
          let up' = least_le passes n in
          cond-false (passes (least passes n)) (least passes n) (suc n) (below (least passes n) (omega arith)) ∙ omega arith
      | inr before ↦ let ih = least-is passes n c before here below in rw (ih, here)
    ]

-- the number that passes, where none above it up to n does
pub greatest-is : (passes : ℕ → Bool) (n g : ℕ) → g ≤ n → passes g ≡ true → ((k : ℕ) → g < k → k ≤ n → passes k ≡ false)
    → greatest passes n ≡ g
unfolding greatest
greatest-is passes zero g up here above = omega arith
greatest-is passes (suc n) g up here above =
    elim (cases_lt n g) [
      | inl last ↦
          let same : g ≡ suc n = omega arith in
          cond-true (passes (suc n)) (suc n) (greatest passes n) (rw same at here) ∙ sym same
      | inr before ↦
          cond-false (passes (suc n)) (suc n) (greatest passes n) (above (suc n) (omega arith) (omega arith))
          ∙ greatest-is passes n g before here (λ k after within. above k after (omega arith))
    ]

-- a quotient, rounded up
abbrev pub rounded_up : ℕ → ℕ → ℕ
rounded_up n k = n / k + min 1 (n % k)

-- as few as cover
pub rounded_up_least : (units block count : ℕ) → 0 < block → units ≤ count * block → rounded_up units block ≤ count
rounded_up_least units block count some enough =
    let (covers, close) = div_ceil_times units block some in
    let beyond : rounded_up units block * block < (count + 1) * block = omega arith in
    let below : rounded_up units block < count + 1 = lt_of_mul-lt-mul_right block beyond in
    omega arith

-- one block less does not cover
pub rounded_up_more : (units block count : ℕ) → 0 < block → count * block < units → count < rounded_up units block
rounded_up_more units block count some short =
    let (covers, close) = div_ceil_times units block some in
    let beyond : count * block < rounded_up units block * block = omega arith in
    lt_of_mul-lt-mul_right block beyond

-- the blocks that cover the units, in one quotient
blocks-is : (tariff : TariffView) (units : ℕ) → 1 ≤ tariff.block → blocks tariff units ≡ rounded_up units tariff.block
blocks-is tariff units some =
    let (enough, close) = div_ceil_times units tariff.block some in
    least-is (λ count. nat_le units (count * tariff.block)) units (rounded_up units tariff.block)
    (rounded_up_least units tariff.block units some (le-mul_of_pos_right units some))
    (grind (arith, nat_tests))
    (λ k fewer. elim (cases_lt (k * tariff.block) units) [
      | inl short ↦ grind (arith, nat_tests)
      | inr covered ↦ let least = rounded_up_least units tariff.block k some covered in absurd (omega arith)
    ])

pub price-is : (tariff : TariffView) (units : ℕ) → 1 ≤ tariff.block → price tariff units ≡ rounded_up units tariff.block * tariff.price
unfolding price
price-is tariff units some = ap (λ count. count * tariff.price) (blocks-is tariff units some)

-- where none passes, all of it
least-none : (passes : ℕ → Bool) (n : ℕ) → ((k : ℕ) → k < n → passes k ≡ false) → least passes n ≡ n
unfolding least
least-none passes zero none = refl
least-none passes (suc n) none =
    let up = least_le passes n in
    cond-false (passes (least passes n)) (least passes n) (suc n) (none (least passes n) (omega arith))

blocks-empty : (tariff : TariffView) (units : ℕ) → tariff.block ≡ 0 → blocks tariff units ≡ units
blocks-empty tariff units none =
    least-none (λ count. nat_le units (count * tariff.block)) units
    (λ k fewer. let nothing : k * tariff.block ≡ 0 = rw none (omega arith) in rw nothing (grind (arith, nat_tests)))

blocks_grow : (tariff : TariffView) (fewer more : ℕ) → fewer ≤ more → blocks tariff fewer ≤ blocks tariff more
blocks_grow tariff fewer more h =
    elim (cases_lt 0 tariff.block) [
      | inl some ↦
          let (enough, close) = div_ceil_times more tariff.block some in
          rw (blocks-is tariff fewer some, blocks-is tariff more some)
          (rounded_up_least fewer tariff.block (rounded_up more tariff.block) some (omega arith))
      | inr none ↦
          let empty : tariff.block ≡ 0 = omega arith in
          rw (blocks-empty tariff fewer empty, blocks-empty tariff more empty) h
    ]

-- more units cost no less
pub price_grows : (tariff : TariffView) (fewer more : ℕ) → fewer ≤ more → price tariff fewer ≤ price tariff more
unfolding price
price_grows tariff fewer more h = mul-le-mul_right tariff.price (blocks_grow tariff fewer more h)

-- a limit on prices
pub price_bound : (tariff : TariffView) (units : ℕ) → IsTariff tariff → units ≤ 10 ^ 12 → price tariff units ≤ 10 ^ 18
price_bound tariff units fits h =
    let some = fits.block_begun in
    let few = rounded_up_least units tariff.block units some (le-mul_of_pos_right units some) in
    rw (price-is tariff units some) (mul-le (rounded_up units tariff.block) tariff.price (10 ^ 12) 1_000_000 (omega arith) fits.price)

-- the greatest number that passes is within the bound, passes, and none above it does
pub greatest_le : (passes : ℕ → Bool) (n : ℕ) → greatest passes n ≤ n
unfolding greatest
greatest_le passes zero = omega arith
greatest_le passes (suc n) =
    let up = greatest_le passes n in
    cond_both (passes (suc n)) (suc n) (greatest passes n) (λ m. m ≤ suc n) (λ _. omega arith) (λ _. omega arith)

pub greatest_passes : (passes : ℕ → Bool) (n : ℕ) → passes 0 ≡ true → passes (greatest passes n) ≡ true
unfolding greatest
greatest_passes passes zero none = none
greatest_passes passes (suc n) none =
    cond_both (passes (suc n)) (suc n) (greatest passes n) (λ m. passes m ≡ true) (λ here. here) (λ _. greatest_passes passes n none)

pub greatest_last : (passes : ℕ → Bool) (n k : ℕ) → greatest passes n < k → k ≤ n → passes k ≡ false
unfolding greatest
greatest_last passes zero k over within = absurd (omega arith)
greatest_last passes (suc n) k over within =
    elim (cases_Bool (passes (suc n))) [
      | inl here ↦ let same = cond-true (passes (suc n)) (suc n) (greatest passes n) here in absurd (omega (arith, over))
      | inr not_here ↦
          let same = cond-false (passes (suc n)) (suc n) (greatest passes n) not_here in
          elim (cases_lt n k) [
            | inl last ↦ let at_end : k ≡ suc n = omega arith in rw at_end not_here
            | inr before ↦ greatest_last passes n k (rw (← same) over) before
          ]
    ]

pub price-nothing : (tariff : TariffView) → price tariff 0 ≡ 0
unfolding price least
price-nothing tariff = omega arith

pub best_up_to_asked : (tariff : TariffView) (asked : ℕ) (free : ℤ) → best tariff asked free ≤ asked
unfolding best
best_up_to_asked tariff asked free = greatest_le (λ units. covers free (price tariff units)) asked

pub best_affordable : (tariff : TariffView) (asked : ℕ) (free : ℤ) → covers free (price tariff (best tariff asked free)) ≡ true
unfolding best
best_affordable tariff asked free = greatest_passes (λ units. covers free (price tariff units)) asked (rw (price-nothing tariff))

pub best_greatest : (tariff : TariffView) (asked : ℕ) (free : ℤ) (more : ℕ) → best tariff asked free < more → more ≤ asked
    → covers free (price tariff more) ≡ false
unfolding best
best_greatest tariff asked free more over within = greatest_last (λ units. covers free (price tariff units)) asked more over within

-- what is covered, above which nothing up to the amount asked is, is the best grant
pub best-is : (tariff : TariffView) (asked given : ℕ) (free : ℤ) → given ≤ asked → covers free (price tariff given) ≡ true
    → ((more : ℕ) → given < more → more ≤ asked → covers free (price tariff more) ≡ false) → best tariff asked free ≡ given
unfolding best
best-is tariff asked given free up here above = greatest-is (λ units. covers free (price tariff units)) asked given up here above

-- what costs something has a price of blocks
pub price_some : (tariff : TariffView) (units : ℕ) → 1 ≤ tariff.block → 0 < price tariff units → 0 < tariff.price
price_some tariff units some costs =
    let costs' : 0 < rounded_up units tariff.block * tariff.price = rw (price-is tariff units some) at costs in
    elim (cases_lt 0 tariff.price) [
      | inl more ↦ more
      | inr none ↦ let free = mul-le-mul_left (rounded_up units tariff.block) none in absurd (omega arith)
    ]

-- the whole blocks that the money pays, where it does not pay all
pub record IsMost (tariff : TariffView) (asked : ℕ) (free : ℤ) (given : ℕ) : Type 0 where
  pub up_to_asked : given ≤ asked
  pub affordable : covers free (price tariff given) ≡ true
  pub greatest : (more : ℕ) → given < more → more ≤ asked → covers free (price tariff more) ≡ false

pub all_of_it : (tariff : TariffView) (asked : ℕ) (free : ℤ) → covers free (price tariff asked) ≡ true → IsMost tariff asked free asked
all_of_it tariff asked free here = record {
  up_to_asked = omega arith;
  affordable = here;
  greatest = λ more after within. absurd (omega arith);
}

pub whole_blocks : (tariff : TariffView) (asked money : ℕ) (free : ℤ) → 1 ≤ tariff.block → price tariff asked ≤ 10 ^ 18 → money < price tariff asked
    → ((cost : ℕ) → cost ≤ 10 ^ 18 → covers free cost ≡ nat_le cost money)
    → IsMost tariff asked free (money / tariff.price * tariff.block)
whole_blocks tariff asked money free some bound short purse =
    let count = money / tariff.price in
    let paid : count * tariff.price ≤ money = div-mul-le_self money tariff.price in
    let costs : 0 < tariff.price = price_some tariff asked some (omega arith) in
    let next : money < count * tariff.price + tariff.price = lt-div-mul-add costs in
    let short' : money < rounded_up asked tariff.block * tariff.price = rw (price-is tariff asked some) at short in
    record {
      up_to_asked = elim (cases_lt asked (count * tariff.block)) [
        | inl over ↦
            let few = rounded_up_least asked tariff.block count some (omega arith) in
            let cheap = mul-le-mul_right tariff.price few in
            absurd (omega arith)
        | inr within ↦ within
      ];
      affordable =
          let few = rounded_up_least (count * tariff.block) tariff.block count some (omega arith) in
          let cheap = mul-le-mul_right tariff.price few in
          let within : price tariff (count * tariff.block) ≤ money = rw (price-is tariff (count * tariff.block) some) (omega arith) in
          purse (price tariff (count * tariff.block)) (omega arith) ∙ le-leb (price tariff (count * tariff.block)) money within;
      greatest = λ more after within.
          let many = rounded_up_more more tariff.block count some after in
          let dear : (count + 1) * tariff.price ≤ rounded_up more tariff.block * tariff.price = mul-le-mul_right tariff.price (omega arith) in
          let over : money < price tariff more = rw (price-is tariff more some) (omega arith) in
          let bounded = price_grows tariff more asked within in
          purse (price tariff more) (omega arith) ∙ grind (arith, nat_tests);
    }

pub best_from_most : (tariff : TariffView) (asked given : ℕ) (free : ℤ) → IsMost tariff asked free given → given ≡ best tariff asked free
best_from_most tariff asked given free most = sym (best-is tariff asked given free most.up_to_asked most.affordable most.greatest)
