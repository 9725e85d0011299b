-- Grants, as a contract sees them.
use Rattle.std.specs.Prelude.{◌≡◌, ℕ, ◌≤◌}
use Rattle.dcc_tariff.specs.Terms.{TariffView}
use Rattle.dcc_tariff.specs.declared.limits.TheConstants.{MAX_UNITS}
use Rattle.dcc_tariff.specs.declared.tariff.UnitKind.{UnitKind}
use Rattle.dcc_tariff.specs.declared.tariff.UnitKind.TheVariants.{Time}
use Rattle.dcc_act.specs.declared.limits.TheConstants.{MAX_SECONDS}

-- so many units, and the tariff at which they were granted
pub record GrantView : Type 0 where
  pub unit : UnitKind
  pub units : ℕ
  pub tariff : TariffView

-- at most 10^12 units, and seconds that fit a CC-Time (RFC 8506, section 8.21)
pub record IsGrant (unit : UnitKind) (units : ℕ) : Type 0 where
  pub few : units ≤ MAX_UNITS
  pub short : unit ≡ Time → units ≤ MAX_SECONDS
