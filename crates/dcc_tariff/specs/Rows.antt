-- The plan of the worked examples.
use Rattle.std.specs.Prelude.{ℕ, ◌∷◌, [], codes, negsuc}
use Rattle.dcc_tariff.specs.Plans.{PlanView}
use Rattle.dcc_tariff.specs.declared.tariff.UnitKind.{UnitKind}
use Rattle.dcc_tariff.specs.declared.tariff.UnitKind.TheVariants.{Octets, Time, Units}
use Rattle.dcc_tariff.specs.declared.version.Version.{Version}

-- a version of a group that holds from the beginning of 2020
abbrev pub version_of : ℕ → UnitKind → (price block : ℕ) → Version
version_of group unit price block = record { group = group; unit = unit; from = 1_577_836_800; tariff = record { price = price; block = block } }

abbrev pub rows_plan : PlanView
rows_plan = record {
  host = codes "ocs.example";
  realm = codes "example";
  address = 127 ∷ 0 ∷ 0 ∷ 1 ∷ [];
  shards = 2;
  default_group = 10;
  quantum = 100_000;
  terms = record { validity = 600; hold = 1200; currency = 978; exponent = negsuc 1 };
  versions = version_of 10 Octets 5 1000 ∷ version_of 20 Time 2 60 ∷ version_of 30 Units 0 1 ∷ [];
}
