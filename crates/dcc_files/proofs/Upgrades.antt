-- What a connection shows that was handed back as it was, and what an upgrade makes of a store.
use Rattle.std.proofs.Common.{◌≡◌, ◌≢◌, ◌⊎◌, inl, inr, ℕ, false, IsTrue, Option, Some, None, length, sym, ap, subst, ◌∙◌, arith}
use Rattle.std.proofs.Math.Logic.{∥∥₁_map}
use Rattle.std.specs.Option.{IfSome}
use Rattle.sqlite.specs.Effect.{Database}
use Rattle.sqlite.specs.Held.{Held, state}
use Rattle.sqlite.specs.State.{State, HasCleanDisk, Survives}
use Rattle.sqlite.proofs.StateLemmas.{survives_then, survives_weaker}
use Rattle.sqlite.specs.Tree.{Trees}
use Rattle.sqlite_trees.specs.declared.store.Store.{Ghosts}
use Rattle.dcc_tariff.specs.Plans.{PlanView}
use Rattle.dcc_tariff.specs.Terms.{TermsView}
use Rattle.dcc_sqlite_store.specs.Content.{leaves}
use Rattle.dcc_sqlite_store.specs.Opening.{FindsBook}
use Rattle.dcc_sqlite_store.specs.Trees.{IsUndone, act_rows}
use Rattle.dcc_sqlite_store.specs.Upgrade.{IsUpgraded}
use Rattle.dcc_sqlite_store.specs.declared.setting.Setting.{Setting}
use Rattle.dcc_sqlite_store.specs.declared.fault.OpenFault.{OpenFault}
use Rattle.dcc_sqlite_store.specs.declared.fault.OpenFault.TheVariants as f
use Rattle.dcc_files.specs.Stores.{IsSettingOf, UpgradesShard, SeesCommitted, StandsUpgraded}

module _ {S : Type 0} (g : Ghosts S) (conn back : Held S) (left : Survives (state g conn) (state g back) (λ _. ⊥)) where
  pub was_clean : HasCleanDisk (state g back) → HasCleanDisk (state g conn)
  was_clean clean = omega (arith, left.clean, clean)

  -- it shows the same
  pub shows_same : SeesCommitted g conn → HasCleanDisk (state g back) → (back ≡ conn) ⊎ IsUndone (state g conn) (state g back) → (state g back).now ≡ (state g conn).now
  shows_same sees clean (inl same) = ap (λ (h : Held S). (state g h).now) same
  shows_same sees clean (inr it) = it.now_is ∙ sym (sees (was_clean clean))

-- so what was found of the one is so of the other
pub along : (Says : Trees → Type 0) (one other : Database) → one ≡ other → Says one.trees → Says other.trees
along Says one other same = subst (λ (d : Database). Says d.trees) same

pub of_shard : (plan : PlanView) (shard : ℕ) (setting : Setting) (Clean : Type 0) (old new : Trees) (count : Option ℕ) → IsSettingOf plan shard setting
    → IfSome count (λ n. Clean → ∥ IsUpgraded setting old new ∥₁) → IfSome count (λ n. Clean → n ≡ length (act_rows old)) → IfSome count (λ n. Clean → UpgradesShard plan shard n old new)
of_shard plan shard setting Clean old new (Some n) it upgraded counted = λ clean. (∥∥₁_map (upgraded clean) (λ u. (setting, it, u)), counted clean)
of_shard plan shard setting Clean old new None it upgraded counted = tt

-- ---- what a stop leaves, and what a refusal does

-- what a stop leaves of a store of this setting: the store as it was, or the upgraded one
abbrev pub Upgrades : Setting → State → State → Type 0
Upgrades setting old new = Survives old new (λ db. ∥ IsUpgraded setting old.now.trees db ∥₁)

-- a call that writes nothing, alone and after an upgrade
pub still_alone : (setting : Setting) (a b : State) → Survives a b (λ _. ⊥) → Upgrades setting a b
still_alone setting a b = survives_weaker a b (λ _. ⊥) (λ db. ∥ IsUpgraded setting a.now.trees db ∥₁) (λ _ db none. absurd none)

pub clean_before : (setting : Setting) (a b : State) → Upgrades setting a b → HasCleanDisk b → HasCleanDisk a
clean_before setting a b left clean = omega (arith, left.clean, clean)

-- a store that was upgraded is the upgraded one once it is opened
pub upgraded_still : (setting : Setting) (a b c : State) → b.now ≡ b.committed → IsUndone b c → ∥ IsUpgraded setting a.now.trees b.now.trees ∥₁ → ∥ IsUpgraded setting a.now.trees c.now.trees ∥₁
upgraded_still setting a b c settled it made = subst (λ (d : Database). ∥ IsUpgraded setting a.now.trees d.trees ∥₁) (settled ∙ sym it.now_is) made

pub still_after : (setting : Setting) (a b c : State) → Upgrades setting a b → Survives b c (λ _. ⊥) → Upgrades setting a c
still_after setting a b c = survives_then a b c (λ db. ∥ IsUpgraded setting a.now.trees db ∥₁) (λ _. ⊥) (λ db. ∥ IsUpgraded setting a.now.trees db ∥₁) (λ _ db it. it) (λ _ db none. absurd none)

-- an upgrade after a call that wrote nothing
pub still_before : (setting : Setting) (a b c : State) → (HasCleanDisk b → b.now ≡ a.now) → Survives a b (λ _. ⊥) → Upgrades setting b c → Upgrades setting a c
still_before setting a b c same one two =
    survives_then a b c (λ _. ⊥) (λ db. ∥ IsUpgraded setting b.now.trees db ∥₁) (λ db. ∥ IsUpgraded setting a.now.trees db ∥₁) (λ _ db none. absurd none)
    (λ clean db it. subst (λ (d : Database). ∥ IsUpgraded setting d.trees db ∥₁) (same (omega (arith, two.clean, clean))) it) one two

-- the book that was found is the one that is there
pub found_there : (terms : TermsView) (old new : State) → IsUndone old new → ∥ FindsBook terms old.committed.trees (leaves terms new) ∥₁ → ∥ FindsBook terms new.committed.trees (leaves terms new) ∥₁
found_there terms old new it = subst (λ (d : Database). ∥ FindsBook terms d.trees (leaves terms new) ∥₁) (sym it.committed_is)

-- a fault that is reported as want of memory once a store is upgraded is no failure of its database
pub not_device : (fault told : OpenFault) → told ≡ f.Memory → (fault ≢ f.Memory → told ≡ f.Device) → fault ≢ f.Device
not_device fault told is others e =
    let other : fault ≢ f.Memory = λ m. (let no : f.Memory ≡ f.Device = sym m ∙ e in cc) in
    let no : f.Memory ≡ f.Device = sym is ∙ others other in
    cc

-- nor is it a judgement of rows or of tables
pub no_judgement : (fault : OpenFault) → (fault ≡ f.Memory) ⊎ (fault ≡ f.Device) → (fault ≡ f.Empty) ⊎ ((fault ≡ f.Layout) ⊎ ((fault ≡ f.Damaged) ⊎ (fault ≡ f.Disagree))) → ⊥
no_judgement f.Memory either (inl is) = let e = is in cc
no_judgement f.Memory either (inr (inl is)) = let e = is in cc
no_judgement f.Memory either (inr (inr (inl is))) = let e = is in cc
no_judgement f.Memory either (inr (inr (inr is))) = let e = is in cc
no_judgement f.Device either (inl is) = let e = is in cc
no_judgement f.Device either (inr (inl is)) = let e = is in cc
no_judgement f.Device either (inr (inr (inl is))) = let e = is in cc
no_judgement f.Device either (inr (inr (inr is))) = let e = is in cc
no_judgement f.Empty either is = elim either [ inl e ↦ let x = e in cc | inr e ↦ let x = e in cc ]
no_judgement f.Layout either is = elim either [ inl e ↦ let x = e in cc | inr e ↦ let x = e in cc ]
no_judgement f.Damaged either is = elim either [ inl e ↦ let x = e in cc | inr e ↦ let x = e in cc ]
no_judgement f.Disagree either is = elim either [ inl e ↦ let x = e in cc | inr e ↦ let x = e in cc ]

-- other tables and refused memory are no failure of a database
pub no_failure : (fault : OpenFault) → fault ≡ f.Layout → fault ≢ f.Device
no_failure fault is e = let no : f.Layout ≡ f.Device = sym is ∙ e in cc

pub no_failure_of_memory : (fault : OpenFault) → fault ≡ f.Memory → fault ≢ f.Device
no_failure_of_memory fault is e = let no : f.Memory ≡ f.Device = sym is ∙ e in cc

module _ {S : Type 0} (g : Ghosts S) (one two three : Held S) where
  pub undone_then : (two ≡ one) ⊎ IsUndone (state g one) (state g two) → (three ≡ two) ⊎ IsUndone (state g two) (state g three) → (three ≡ one) ⊎ IsUndone (state g one) (state g three)
  undone_then (inl same) (inl again) = inl (again ∙ same)
  undone_then (inl same) (inr next) = inr (subst (λ (h : Held S). IsUndone (state g h) (state g three)) same next)
  undone_then (inr it) (inl again) = inr (subst (λ (h : Held S). IsUndone (state g one) (state g h)) (sym again) it)
  undone_then (inr it) (inr next) = inr (record {
    is_open = next.is_open;
    autocommit = next.autocommit;
    now_is = next.now_is ∙ it.committed_is;
    committed_is = next.committed_is ∙ it.committed_is;
  })

  -- an upgraded store that isn't opened stands
  stands_still : (setting : Setting) → IsTrue (state g two).is_open → (state g two).now ≡ (state g two).committed → two.in_transaction ≡ false → (three ≡ two) ⊎ IsUndone (state g two) (state g three)
      → IsUpgraded setting (state g one).now.trees (state g two).now.trees → StandsUpgraded setting (state g one) (state g three)
  stands_still setting is_open settled idle (inl same) it =
      let stands : StandsUpgraded setting (state g one) (state g two) = record { is_open = is_open; autocommit = idle; settled = settled; upgraded = it } in
      subst (λ (h : Held S). StandsUpgraded setting (state g one) (state g h)) (sym same) stands
  stands_still setting is_open settled idle (inr next) it = record {
    is_open = next.is_open;
    autocommit = next.autocommit;
    settled = next.now_is ∙ sym next.committed_is;
    upgraded = subst (λ (d : Database). IsUpgraded setting (state g one).now.trees d.trees) (settled ∙ sym next.now_is) it;
  }

  pub upgraded_stands : (setting : Setting) → ∥ IsUpgraded setting (state g one).now.trees (state g two).now.trees ∥₁ → IsTrue (state g two).is_open → (state g two).now ≡ (state g two).committed → two.in_transaction ≡ false
      → (three ≡ two) ⊎ IsUndone (state g two) (state g three) → ∥ StandsUpgraded setting (state g one) (state g three) ∥₁
  upgraded_stands setting upgraded is_open settled idle still = ∥∥₁_map upgraded (stands_still setting is_open settled idle still)

pub stands_along : (setting : Setting) (old mid new : State) → mid.now ≡ old.now → StandsUpgraded setting mid new → StandsUpgraded setting old new
stands_along setting old mid new same it = record {
  is_open = it.is_open;
  autocommit = it.autocommit;
  settled = it.settled;
  upgraded = subst (λ (d : Database). IsUpgraded setting d.trees new.now.trees) same it.upgraded;
}
