-- A tariff and a plan's terms, as contracts see them, and their limits.
use Rattle.std.specs.Prelude.{ℕ, ◌≤◌, ℤ, pos, negsuc, ◌≤ℤ◌}
use Rattle.dcc_tariff.specs.declared.limits.TheConstants.{MAX_BLOCK_PRICE, MAX_HOLD, MAX_UNITS}

-- the price of a block in minor units, and the units of a block
pub record TariffView : Type 0 where
  pub price : ℕ
  pub block : ℕ

pub record IsTariff (tariff : TariffView) : Type 0 where
  pub price : tariff.price ≤ MAX_BLOCK_PRICE
  pub block_begun : 1 ≤ tariff.block
  pub block : tariff.block ≤ MAX_UNITS

-- the seconds of a grant's validity, the seconds of a session's hold, the currency's number, and the exponent of ten of a minor unit
pub record TermsView : Type 0 where
  pub validity : ℕ
  pub hold : ℕ
  pub currency : ℕ
  pub exponent : ℤ

pub record AreTerms (terms : TermsView) : Type 0 where
  pub validity_some : 1 ≤ terms.validity
  pub validity : terms.validity ≤ MAX_HOLD
  pub hold_some : 1 ≤ terms.hold
  pub hold : terms.hold ≤ MAX_HOLD
  pub currency : terms.currency ≤ 999
  pub exponent_low : negsuc 8 ≤ℤ terms.exponent
  pub exponent_high : terms.exponent ≤ℤ pos 9
