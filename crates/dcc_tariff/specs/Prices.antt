-- The price of units, and the units that an amount of money affords.
use Rattle.std.specs.Prelude.{ℕ, zero, suc, ◌*◌, Bool, ◌||◌, ◌==◌, nat_le, if◌then◌else◌, ℤ, pos, int_le}
use Rattle.dcc_tariff.specs.Terms.{TariffView}

-- the least number up to n that passes, else n
unfoldable pub least : (ℕ → Bool) → ℕ → ℕ
least passes zero = 0
least passes (suc n) = let below = least passes n in if passes below then below else suc n

-- the greatest number up to n that passes, else 0
unfoldable pub greatest : (ℕ → Bool) → ℕ → ℕ
greatest passes zero = 0
greatest passes (suc n) = if passes (suc n) then suc n else greatest passes n

-- the least number of blocks that covers the units; as many blocks as there are units always do
abbrev pub blocks : TariffView → ℕ → ℕ
blocks tariff units = least (λ count. nat_le units (count * tariff.block)) units

-- the price of the blocks that are begun
unfoldable pub price : TariffView → ℕ → ℕ
price tariff units = blocks tariff units * tariff.price

-- a cost of nothing is always covered, and any other by at least as much money
abbrev pub covers : ℤ → ℕ → Bool
covers money cost = (cost == 0) || int_le (pos cost) money

-- the greatest amount up to the amount asked whose price is nothing or within the free money
unfoldable pub best : TariffView → ℕ → ℤ → ℕ
best tariff asked free = greatest (λ units. covers free (price tariff units)) asked
