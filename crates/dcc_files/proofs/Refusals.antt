-- Why a store is refused, by its number.
use Rattle.std.proofs.Common.{◌≡◌, ◌≢◌, ◌⊎◌, inl, inr, ℕ, Result, Ok, Err, refl, sym, subst}
use Rattle.std.specs.Result.{IfErr, IsErrAnd}
use Rattle.sqlite.specs.Held.{Held, state}
use Rattle.sqlite.specs.State.{HasCleanDisk}
use Rattle.sqlite_trees.specs.declared.store.Store.{Ghosts}
use Rattle.dcc_tariff.specs.Plans.{PlanView}
use Rattle.dcc_sqlite_store.specs.Faults.{open_number, create_number}
use Rattle.dcc_sqlite_store.specs.Tables.{no_schema, layout}
use Rattle.dcc_sqlite_store.specs.declared.setting.Setting.{Setting}
use Rattle.dcc_sqlite_store.specs.declared.fault.OpenFault.{OpenFault}
use Rattle.dcc_sqlite_store.specs.declared.fault.OpenFault.TheVariants as f
use Rattle.dcc_sqlite_store.specs.declared.fault.CreateFault.{CreateFault}
use Rattle.dcc_sqlite_store.specs.declared.fault.CreateFault.TheVariants as create
use Rattle.dcc_files.specs.Stores.{IsSettingOf, HasNoSetting, HasNeitherSetting, HasDamage, HasNoBook, IsOpenFault}

pub handed_on : {A E : Type 0} (P : E → Type 0) (result : Result A E) (error : E) → IsErrAnd result (λ other. other ≡ error) → P error → IfErr result P
handed_on P (Ok value) error is it = tt
handed_on P (Err other) error is it = subst P (sym is) it

module _ {S : Type 0} (g : Ghosts S) (plan : PlanView) (shard : ℕ) (conn : Held S) where
  pub no_setting : (number : ℕ) → number ≡ 53 → HasNoSetting plan shard → IsOpenFault g plan shard conn number
  no_setting number is none = inr (inl (is, inl none))

  pub open_fault_is : (after : Held S) (setting : Setting) (number : ℕ) (fault : OpenFault) → IsSettingOf plan shard setting → number ≡ open_number fault → fault ≢ f.Empty
      → (fault ≡ f.Layout → ((conn.schema ≢ no_schema) × (conn.schema ≢ layout)) ⊎ (conn.schema ≡ layout))
      → (fault ≡ f.Layout → conn.schema ≡ layout → HasCleanDisk (state g after) → HasNeitherSetting setting (state g conn).now.trees)
      → ((fault ≡ f.Damaged) ⊎ (fault ≡ f.Disagree) → conn.schema ≡ layout)
      → (fault ≡ f.Damaged → HasCleanDisk (state g after) → HasDamage setting (state g conn).now.trees)
      → (fault ≡ f.Disagree → HasCleanDisk (state g after) → HasNoBook setting (state g conn).now.trees) → IsOpenFault g plan shard conn number
  open_fault_is after setting number f.Memory it is some tables other ours damaged disagree = inl (inl is)
  open_fault_is after setting number f.Device it is some tables other ours damaged disagree = inl (inr is)
  open_fault_is after setting number f.Empty it is some tables other ours damaged disagree = absurd (some refl)
  open_fault_is after setting number f.Layout it is some tables other ours damaged disagree = elim (tables refl) [
    | inl none ↦ inr (inl (is, inr (inl none)))
    | inr mine ↦ inr (inl (is, inr (inr (mine, setting, it, after, other refl mine))))
  ]
  open_fault_is after setting number f.Damaged it is some tables other ours damaged disagree = inr (inr (inr (is, (ours (inl refl), setting, it, after, damaged refl))))
  open_fault_is after setting number f.Disagree it is some tables other ours damaged disagree = inr (inr (inl (is, (ours (inr refl), setting, it, after, disagree refl))))

  pub create_fault_is : (number : ℕ) (fault : CreateFault) → number ≡ create_number fault → (fault ≡ create.Layout → ⊥) → IsOpenFault g plan shard conn number
  create_fault_is number create.Memory is none = inl (inl is)
  create_fault_is number create.Device is none = inl (inr is)
  create_fault_is number create.Layout is none = absurd (none refl)
