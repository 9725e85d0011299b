-- An append, as far as a caller sees it.
use Rattle.std.proofs.Common.{◌≡◌, ◌⊎◌, inl, inr, ◌≤◌, true, IsTrue, List, sym, subst, ◌∙◌, arith}
use Rattle.std.proofs.Math.Logic.{∥∥₁_elim, ∥∥₁_map}
use Rattle.sqlite.specs.View.{doubt}
use Rattle.sqlite.specs.State.{State, HasCleanDisk, Survives}
use Rattle.dcc_tariff.specs.Terms.{TermsView}
use Rattle.dcc_act.specs.declared.sub.Sub.{Sub}
use Rattle.dcc_act.specs.Subs.{SameAreEqual}
use Rattle.dcc_store.specs.Books.{Held}
use Rattle.dcc_store.specs.Contents.{Content, IsContentOf, kept_by}
use Rattle.dcc_store.specs.Batches.{AdditionView, subs_of, with_all, are_apart, acts_of, AreNext}
use Rattle.dcc_store.specs.Laws.{AccountsGrow, BatchesGrowEach}
use Rattle.dcc_store.specs.Stops.{LeavesOnly, LeavesEither}
use Rattle.dcc_sqlite_rows.specs.declared.tally.Tally.{Tally}
use Rattle.dcc_sqlite_store.specs.Tables.{layout}
use Rattle.dcc_sqlite_store.specs.Content.{leaves}
use Rattle.dcc_sqlite_store.specs.inner.Trees.{account_tree, IsKeyed, HasCommitted, IsUndone}
use Rattle.dcc_sqlite_store.specs.inner.Tallies.{tally_in, AreTallies}
use Rattle.dcc_sqlite_store.specs.inner.Steps.{steps_behind, tallies_after, AppendsAll}
use Rattle.dcc_sqlite_store.specs.inner.Keeping.{Keeps, KeepsBook}
use Rattle.dcc_sqlite_store.proofs.Tallying.{tallies_same}
use Rattle.dcc_sqlite_store.proofs.Batches.{AreReady, ready_of, all_tallies}
use Rattle.dcc_sqlite_store.proofs.Stopping.{Settles, Differ, content_prop, kept_leaves, only_kept, kept_undone, kept_grown, either_left, same_held, grown_along, along, decided}

-- tallies that are the same keep the same
pub kept_room : (terms : TermsView) (s : State) (old new : List (Sub × Tally)) → ((other : Sub) → tally_in new other ≡ tally_in old other) → (HasCleanDisk s → ∥ KeepsBook terms s old ∥₁) → HasCleanDisk s → ∥ KeepsBook terms s new ∥₁
kept_room terms s old new same kept clean = ∥∥₁_map (kept clean) (λ k. (k.0, k.1, tallies_same terms old new k.0 same k.2))

module _ (terms : TermsView) (old new : State) (tallies : List (Sub × Tally)) (settles : Settles old) (stays : IsTrue old.is_open → old.may_leave old.committed.trees) (clean : doubt old.is_clean ≤ doubt new.is_clean)
    (kept : HasCleanDisk old → ∥ KeepsBook terms old tallies ∥₁) where
  was_clean : HasCleanDisk new → HasCleanDisk old
  was_clean now = omega (arith, clean, now)

  pub kept_back : (HasCleanDisk new → IsUndone old new ⊎ (new ≡ old)) → HasCleanDisk new → ∥ KeepsBook terms new tallies ∥₁
  kept_back undone now = elim (undone now) [
    | inl u ↦ ∥∥₁_map (kept (was_clean now)) (λ k. (k.0, kept_undone terms old new k.0 k.1 u, k.2))
    | inr same ↦ subst (λ (s : State). ∥ KeepsBook terms s tallies ∥₁) (sym same) (kept (was_clean now))
  ]

  pub refused_of : Differ → Settles new → (HasCleanDisk new → IsUndone old new ⊎ (new ≡ old)) → (known : Held) → LeavesOnly terms known (leaves terms old) → LeavesOnly terms known (leaves terms new)
  refused_of differ settled undone known only found left =
      let now = left.0 in
      let was = was_clean now in
      ∥∥₁_elim (kept was) (content_prop terms known found) (λ k.
      let same = same_held terms old k.0 known differ (stays k.1.is_open) was k.1 only in
      let it : IsContentOf terms k.0 found = elim (undone now) [
        | inl u ↦ only_kept terms new k.0 settled (kept_undone terms old new k.0 k.1 u) found left
        | inr e ↦ only_kept terms old k.0 settles k.1 found (subst (λ (s : State). leaves terms s found) e left)
      ] in
      along terms k.0 known found same it)

  module _ (same : SameAreEqual) (differ : Differ) (own : BatchesGrowEach) (grow : AccountsGrow) (batch : List AdditionView) (apart : are_apart (subs_of batch) ≡ true) (next : (found : Content) → leaves terms old found → AreNext terms batch (acts_of found)) where
    abbrev Adds : Type 0
    Adds = HasCleanDisk new → old.now.schema ≡ layout → IsKeyed (old.now.trees account_tree) → HasCommitted (AppendsAll (steps_behind tallies batch)) old new

    ready : HasCleanDisk old → (k : KeepsBook terms old tallies) → AreReady terms tallies k.0 batch
    ready was k = ready_of terms tallies k.0 batch k.2 (next (λ s. kept_by terms (k.0 s)) (kept_leaves terms old k.0 differ (stays k.1.is_open) was k.1))

    grown : Adds → HasCleanDisk new → (k : KeepsBook terms old tallies) → Keeps terms new (with_all batch k.0)
    grown added now k =
        kept_grown terms same grow old new k.0 tallies batch k.1 apart (ready (was_clean now) k) (added now k.1.schema k.1.keyed)

    pub kept_ok : Adds → (after : List (Sub × Tally)) → ((other : Sub) → tally_in after other ≡ tallies_after (steps_behind tallies batch) (tally_in tallies) other) → HasCleanDisk new → ∥ KeepsBook terms new after ∥₁
    kept_ok added after set now =
        ∥∥₁_map (kept (was_clean now)) (λ k.
        let are : AreTallies terms after (with_all batch k.0) = λ other. set other ∙ all_tallies terms grow tallies batch (tally_in tallies) k.0 same apart (ready (was_clean now) k) k.2 other in
        (with_all batch k.0, grown added now k, are))

    pub stored_of : Adds → Settles new → (known : Held) → LeavesOnly terms known (leaves terms old) → LeavesOnly terms (with_all batch known) (leaves terms new)
    stored_of added settled known only found left =
        let now = left.0 in
        let was = was_clean now in
        ∥∥₁_elim (kept was) (content_prop terms (with_all batch known) found) (λ k.
        let alike = same_held terms old k.0 known differ (stays k.1.is_open) was k.1 only in
        grown_along terms batch k.0 known found alike (only_kept terms new (with_all batch k.0) settled (grown added now k) found left))

    pub crash_of : (old.now.schema ≡ layout → IsKeyed (old.now.trees account_tree) → Survives old new (AppendsAll (steps_behind tallies batch) old.now.trees))
        → (known : Held) → LeavesOnly terms known (leaves terms old) → LeavesEither terms known (with_all batch known) (leaves terms new)
    crash_of survives known only found left =
        let was = was_clean left.0 in
        decided terms own known batch found apart (∥∥₁_map (kept was) (λ k.
        let alike = same_held terms old k.0 known differ (stays k.1.is_open) was k.1 only in
        let one : IsContentOf terms k.0 found ⊎ IsContentOf terms (with_all batch k.0) found =
        either_left terms same grow old new k.0 tallies batch k.1 apart (ready was k) settles (survives k.1.schema k.1.keyed) found left in
        let r : IsContentOf terms known found ⊎ IsContentOf terms (with_all batch known) found = elim one [
          | inl x ↦ inl (along terms k.0 known found alike x)
          | inr y ↦ inr (grown_along terms batch k.0 known found alike y)
        ] in r))
