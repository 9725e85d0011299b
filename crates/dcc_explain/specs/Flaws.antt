-- What is wrong with a plan, and where that stands: each key is judged by itself as the reading of plans judges it.
use Rattle.std.specs.Prelude.{◌≡◌, ⊤, ℕ, ◌-◌, ◌^◌, pos, negsuc, List, codes, Option, Some, None, Result, Ok, Err}
use Rattle.toml.specs.Data.{Members, as_array, as_str}
use Rattle.dcc_tariff.specs.PlanTexts.{identity_at, integer_at, number_at, unit_at, value_at}
use Rattle.dcc_tariff.specs.declared.limits.TheConstants.{MAX_BLOCK_PRICE, MAX_HOLD, MAX_SHARDS, MAX_UNITS}
use Rattle.dcc_tariff.specs.declared.fault.PlanFault.{PlanFault}
use Rattle.dcc_explain.specs.declared.key.Key.{Key}
use Rattle.dcc_explain.specs.declared.key.Key.TheVariants.{Host, Realm, Address, Shards, DefaultGroup, Quantum, Validity, Hold, Currency, Exponent}
use Rattle.dcc_explain.specs.declared.key.Key.TheVariants.{Tariffs, Group, Counted, Begin, Price, Block}
use Rattle.dcc_explain.specs.declared.place.Place.{Place}
use Rattle.dcc_explain.specs.declared.place.Place.TheVariants as place

-- the name of a key
abbrev pub name_of : Key → List ℕ
name_of Host = codes "host"
name_of Realm = codes "realm"
name_of Address = codes "address"
name_of Shards = codes "shards"
name_of DefaultGroup = codes "default_group"
name_of Quantum = codes "quantum"
name_of Validity = codes "validity"
name_of Hold = codes "hold"
name_of Currency = codes "currency"
name_of Exponent = codes "exponent"
name_of Tariffs = codes "tariff"
name_of Group = codes "group"
name_of Counted = codes "unit"
name_of Begin = codes "from"
name_of Price = codes "price"
name_of Block = codes "block"

-- the fault of what was read, if it has one
abbrev pub fault_in : {A : Type 0} → Result A PlanFault → Option PlanFault
fault_in (Ok x) = None
fault_in (Err fault) = Some fault

-- the fault of a key of a table by itself; of an address, a moment and the list of tariffs, whether they are there and have their type
abbrev pub fault_at : Key → Members → Option PlanFault
fault_at Host table = fault_in (identity_at (codes "host") table)
fault_at Realm table = fault_in (identity_at (codes "realm") table)
fault_at Address table = fault_in (value_at as_str (codes "address") table)
fault_at Shards table = fault_in (number_at (codes "shards") 1 MAX_SHARDS table)
fault_at DefaultGroup table = fault_in (number_at (codes "default_group") 0 (2 ^ 32 - 1) table)
fault_at Quantum table = fault_in (number_at (codes "quantum") 1 MAX_UNITS table)
fault_at Validity table = fault_in (number_at (codes "validity") 1 MAX_HOLD table)
fault_at Hold table = fault_in (number_at (codes "hold") 1 MAX_HOLD table)
fault_at Currency table = fault_in (number_at (codes "currency") 0 999 table)
fault_at Exponent table = fault_in (integer_at (codes "exponent") (negsuc 8) (pos 9) table)
fault_at Tariffs table = fault_in (value_at as_array (codes "tariff") table)
fault_at Group table = fault_in (number_at (codes "group") 0 (2 ^ 32 - 1) table)
fault_at Counted table = fault_in (unit_at (codes "unit") table)
fault_at Begin table = fault_in (value_at as_str (codes "from") table)
fault_at Price table = fault_in (number_at (codes "price") 0 MAX_BLOCK_PRICE table)
fault_at Block table = fault_in (number_at (codes "block") 1 MAX_UNITS table)

-- a key of the plan that is named as the place of a fault has this fault by itself
abbrev pub IsAt : Option Members → PlanFault → Place → Type 0
IsAt (Some table) fault (place.Key key) = fault_at key table ≡ Some fault
IsAt document fault where_it_is = ⊤
