-- What a stop leaves is a store.
use Rattle.std.proofs.Common.{◌≡◌, ◌⊎◌, inl, inr, ◌≤◌, IsTrue, List, sym, ap, subst, ◌∙◌, arith}
use Rattle.std.proofs.Math.Logic.{∥∥₁_elim, ∥∥₁_map}
use Rattle.std.proofs.Props.{props}
use Rattle.sqlite.specs.View.{doubt}
use Rattle.sqlite.specs.Schema.{Schema}
use Rattle.sqlite.specs.Tree.{Trees}
use Rattle.sqlite.specs.Effect.{Database, IsDatabase}
use Rattle.sqlite.specs.State.{State, HasCleanDisk, Survives, IsLive}
use Rattle.dcc_tariff.specs.Terms.{TermsView}
use Rattle.dcc_act.specs.declared.sub.Sub.{Sub}
use Rattle.dcc_sqlite_rows.specs.declared.tally.Tally.{Tally}
use Rattle.dcc_sqlite_store.specs.Tables.{layout}
use Rattle.dcc_sqlite_store.specs.Trees.{IsStore, IsUndone}
use Rattle.dcc_sqlite_store.specs.Setting.{IsFirst}
use Rattle.dcc_sqlite_store.specs.declared.setting.Setting.{Setting}
use Rattle.dcc_sqlite_store.specs.inner.Trees.{account_tree, IsKeyed, HasCommitted}
use Rattle.dcc_sqlite_store.specs.inner.Steps.{StepView, AppendsAll}
use Rattle.dcc_sqlite_store.specs.inner.Reading.{HasOtherLayout}
use Rattle.dcc_sqlite_store.specs.inner.Keeping.{KeepsBook}
use Rattle.dcc_sqlite_store.proofs.Batches.{store_after}

pub store_of : (db : Database) → IsDatabase db → db.schema ≡ layout → IsStore db.trees
unfolding IsStore
store_of db sound has = subst (λ (s : Schema). IsDatabase (record { schema = s; trees = db.trees })) has sound

module _ (terms : TermsView) (old new : State) (tallies : List (Sub × Tally)) (clean : doubt old.is_clean ≤ doubt new.is_clean) (kept : HasCleanDisk old → ∥ KeepsBook terms old tallies ∥₁)
    (store : HasCleanDisk old → (db : Trees) → old.may_leave db → ∥ IsStore db ∥₁) where
  was_clean : HasCleanDisk new → HasCleanDisk old
  was_clean now = omega (arith, clean, now)

  pub store_added : (steps : List StepView) → (IsTrue old.is_open → old.may_leave old.committed.trees)
      → (old.now.schema ≡ layout → IsKeyed (old.now.trees account_tree) → Survives old new (AppendsAll steps old.now.trees)) → HasCleanDisk new → (db : Trees) → new.may_leave db → ∥ IsStore db ∥₁
  store_added steps stays crash now db may = ∥∥₁_elim (kept (was_clean now)) (hlevel props) (λ k.
      let either : old.may_leave db ⊎ AppendsAll steps old.now.trees db = (crash k.1.schema k.1.keyed).crash now db may in
      let was : ∥ IsStore old.now.trees ∥₁ = subst (λ (d : Database). ∥ IsStore d.trees ∥₁) (sym k.1.settled) (store (was_clean now) old.committed.trees (stays k.1.is_open)) in
      elim either [ inl before ↦ store (was_clean now) db before | inr added ↦ ∥∥₁_map was (λ sound. store_after steps old.now.trees db added sound) ])

  pub store_read : Survives old new (HasOtherLayout old) → HasCleanDisk new → (db : Trees) → new.may_leave db → ∥ IsStore db ∥₁
  store_read crash now db may = ∥∥₁_elim (kept (was_clean now)) (hlevel props) (λ k.
      let either : old.may_leave db ⊎ HasOtherLayout old db = crash.crash now db may in
      elim either [ inl before ↦ store (was_clean now) db before | inr other ↦ absurd (other k.1.schema) ])

module _ (old new : State) (settles : IsTrue new.is_open → (db : Trees) → new.may_leave db → db ≡ new.committed.trees) where
  pub store_made : (setting : Setting) → HasCommitted (λ _. IsFirst setting) old new → (db : Trees) → new.may_leave db → ∥ IsStore db ∥₁
  store_made setting it db may = ∣ subst IsStore (sym (settles it.is_open db may ∙ ap (λ (d : Database). d.trees) (sym it.settled))) it.changes.2 ∣₁

  pub store_opened : IsLive old → IsTrue old.is_open → (IsTrue old.is_open → old.now ≡ old.committed) → old.now.schema ≡ layout → IsUndone old new → (db : Trees) → new.may_leave db → ∥ IsStore db ∥₁
  store_opened live was_open settled has it db may =
      let same : db ≡ old.committed.trees = settles it.is_open db may ∙ ap (λ (d : Database). d.trees) it.committed_is in
      let schema : old.committed.schema ≡ layout = ap (λ (d : Database). d.schema) (sym (settled was_open)) ∙ has in
      ∣ subst IsStore (sym same) (store_of old.committed (live was_open).1 schema) ∣₁
