-- The view of a plan's fields, and what holds of every plan.
use Rattle.std.specs.Prelude.{◌≡◌, ◌≤◌, true, length, string_bytes}
use Rattle.std.specs.List.{list_any}
use Rattle.dcc_octets.specs.Names.{is_name}
use Rattle.dcc_tariff.specs.Plans.{PlanView, are_ordered, all_agree, is_of}
use Rattle.dcc_tariff.specs.declared.limits.TheConstants.{MAX_SHARDS, MAX_UNITS, MAX_TABLES}
use Rattle.dcc_tariff.specs.declared.plan.Plan.TheInside.{Inside}

abbrev pub shown : Inside → PlanView
shown p = record {
  host = string_bytes p.host;
  realm = string_bytes p.realm;
  address = p.address;
  shards = p.shards;
  default_group = p.default_group;
  quantum = p.quantum;
  terms = p.terms;
  versions = p.versions.items;
}

-- what holds of every plan
pub record IsPlan (plan : PlanView) : Type 0 where
  pub host : is_name plan.host ≡ true
  pub realm : is_name plan.realm ≡ true
  pub shards_some : 1 ≤ plan.shards
  pub shards : plan.shards ≤ MAX_SHARDS
  pub quantum_some : 1 ≤ plan.quantum
  pub quantum : plan.quantum ≤ MAX_UNITS
  pub ordered : are_ordered plan.versions ≡ true
  pub agree : all_agree plan.versions ≡ true
  pub default_group : list_any (is_of plan.default_group) plan.versions ≡ true
  pub few : length plan.versions ≤ MAX_TABLES
