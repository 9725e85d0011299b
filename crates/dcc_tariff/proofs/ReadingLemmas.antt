-- A plan whose parts were all read.
use Rattle.std.proofs.Common.{◌≡◌, ◌-◌, ◌^◌, true, ◌&&◌, [], codes, Ok}
use Rattle.std.specs.List.{list_any}
use Rattle.toml.specs.Data.{Members, Items}
use Rattle.dcc_tariff.specs.Plans.{PlanView, all_agree, is_of}
use Rattle.dcc_tariff.specs.declared.limits.TheConstants.{MAX_SHARDS, MAX_UNITS}
use Rattle.dcc_tariff.specs.PlanTexts.{identity_at, address_at, number_at, terms_of, tables_at, versions_onto, plan_of}

-- what each key holds
pub record HasParts (table : Members) (tables : Items) (plan : PlanView) : Type 0 where
  pub host : identity_at (codes "host") table ≡ Ok plan.host
  pub realm : identity_at (codes "realm") table ≡ Ok plan.realm
  pub address : address_at (codes "address") table ≡ Ok plan.address
  pub shards : number_at (codes "shards") 1 MAX_SHARDS table ≡ Ok plan.shards
  pub default_group : number_at (codes "default_group") 0 (2 ^ 32 - 1) table ≡ Ok plan.default_group
  pub quantum : number_at (codes "quantum") 1 MAX_UNITS table ≡ Ok plan.quantum
  pub terms : terms_of table ≡ Ok plan.terms
  pub all_tables : tables_at (codes "tariff") table ≡ Ok tables
  pub versions : versions_onto [] tables ≡ Ok plan.versions
  pub agree : (all_agree plan.versions && list_any (is_of plan.default_group) plan.versions) ≡ true

pub plan_of-parts : (table : Members) (tables : Items) (plan : PlanView) → HasParts table tables plan → plan_of table ≡ Ok plan
unfolding plan_of
plan_of-parts table tables plan h =
    rw (h.host, h.realm, h.address, h.shards, h.default_group, h.quantum, h.terms, h.all_tables, h.versions, h.agree)
