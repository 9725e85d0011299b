-- What a load finds and leaves.
use Rattle.std.proofs.Common.{◌≡◌, ◌⊎◌, inl, inr, ◌≤◌, false, IsTrue, List, refl, sym, subst, ◌∙◌, arith, Result, Ok, Err, IfOk}
use Rattle.std.proofs.Math.Logic.{∥∥₁_elim, ∥∥₁_map}
use Rattle.std.proofs.Props.{props}
use Rattle.std.specs.List.{AllByRecursion}
use Rattle.std.specs.List.Sorted.{IsPermutation}
use Rattle.std.proofs.lemmas.List.Sorted.{IsPermutation-sym, Contains-permutation}
use Rattle.sqlite.specs.View.{doubt}
use Rattle.sqlite.specs.Order.{Row}
use Rattle.sqlite.specs.Schema.{Schema}
use Rattle.sqlite_schema.specs.contracts.schema.Schema.{the_row}
use Rattle.sqlite.specs.Tree.{Trees}
use Rattle.sqlite.specs.State.{State, HasCleanDisk, IsUnchanged, Survives}
use Rattle.sqlite.proofs.StateLemmas.{survives_then}
use Rattle.dcc_tariff.specs.Terms.{TermsView}
use Rattle.dcc_act.specs.declared.sub.Sub.{Sub}
use Rattle.dcc_store.specs.Books.{Held, PageView, AreInOrder, acts_in}
use Rattle.dcc_store.specs.Contents.{Content, IsContentOf, kept_by}
use Rattle.dcc_store.specs.Stops.{LeavesOnly}
use Rattle.dcc_sqlite_rows.specs.declared.tally.Tally.{Tally}
use Rattle.dcc_sqlite_rows.specs.Pages.{IsPage, book_act_rows}
use Rattle.dcc_sqlite_rows.specs.Held.{AreJust, IsActRow, PagesHoldTheirActs, PagesFit}
use Rattle.dcc_sqlite_store.specs.Tables.{layout}
use Rattle.dcc_sqlite_store.specs.Trees.{act_rows, IsUndone}
use Rattle.dcc_sqlite_store.specs.Content.{leaves}
use Rattle.dcc_sqlite_store.specs.inner.Reading.{LeftOrUndone, IsSettled, HasOtherLayout, HasActs}
use Rattle.dcc_sqlite_store.specs.inner.Keeping.{KeepsBook}
use Rattle.dcc_sqlite_store.proofs.Stopping.{Settles, Differ, content_prop, kept_leaves, only_kept, kept_undone, along}
use Rattle.dcc_sqlite_store.proofs.Apart.{apart_along}
use Rattle.dcc_sqlite_store.proofs.Books.{same_acts, acts_held}

pub unchanged_still : (old new : State) → new.in_transaction ≡ false → IsSettled old → IsUnchanged old new → IsUndone old new
unchanged_still old new mode settled h = record { is_open = h.0.is_open; autocommit = mode; now_is = h.0.now_is ∙ settled h.0.was_open; committed_is = h.0.committed_is }

-- a connection that answers after a failure is open
pub probed_still : (old mid new : State) → new.in_transaction ≡ false → IsSettled old → LeftOrUndone old mid → IsUnchanged mid new → IsUndone old new
probed_still old mid new mode settled (inl u) p = record { is_open = p.0.is_open; autocommit = mode; now_is = p.0.now_is ∙ u.0.now_is ∙ settled u.0.was_open; committed_is = p.0.committed_is ∙ u.0.committed_is }
probed_still old mid new mode settled (inr undone) p =
    let back = undone p.0.was_open in
    record { is_open = p.0.is_open; autocommit = mode; now_is = p.0.now_is ∙ back.0; committed_is = p.0.committed_is ∙ back.1 }

pub probed_crash : (old mid new : State) → Survives old mid (HasOtherLayout old) → Survives mid new (λ _. ⊥) → Survives old new (HasOtherLayout old)
probed_crash old mid new = survives_then old mid new (HasOtherLayout old) (λ _. ⊥) (HasOtherLayout old) (λ _ db other. other) (λ _ db none. absurd none)

-- rows that are those of pages, in whatever order, are those of their book
pub just_along : (rows all : List Row) (Says : Row → Type 0) → IsPermutation all rows → AreJust rows Says → AreJust all Says
just_along rows all Says same it = record {
  there = λ row says. Contains-permutation rows all row (IsPermutation-sym all rows same) (it.there row says);
  only = λ row h. it.only row (Contains-permutation all rows row same h);
  once = apart_along rows all (IsPermutation-sym all rows same) it.once;
}

pub has_acts : PagesHoldTheirActs → PagesFit → (db : Trees) (rows : List Row) (pages : List PageView) → IsPermutation (act_rows db) rows → rows ≡ book_act_rows pages → AreInOrder pages → AllByRecursion IsPage pages
    → HasActs db (acts_in pages)
has_acts hold fit db rows pages shown are sorted valid =
    (fit pages valid, just_along rows (act_rows db) (IsActRow (acts_in pages)) shown (subst (λ (all : List Row). AreJust all (IsActRow (acts_in pages))) (sym are) (hold pages sorted valid)))

-- ---- records that are loaded

pub schema_prop : (s : Schema) → IsProp (s ≡ layout)
schema_prop s = hlevel (props, the_row.coded)

module _ (terms : TermsView) (old new : State) (tallies : List (Sub × Tally)) (clean : doubt old.is_clean ≤ doubt new.is_clean)
    (kept : HasCleanDisk old → ∥ KeepsBook terms old tallies ∥₁) where
  pub was_clean : HasCleanDisk new → HasCleanDisk old
  was_clean now = omega (arith, clean, now)

  pub has_layout : HasCleanDisk new → old.now.schema ≡ layout
  has_layout now = ∥∥₁_elim (kept (was_clean now)) (schema_prop old.now.schema) (λ k. k.1.schema)

  -- what a stop leaves it left before
  pub left_before : Survives old new (HasOtherLayout old) → (found : Content) → leaves terms new found → leaves terms old found
  left_before survives found left =
      let may : old.may_leave left.1.0 ⊎ HasOtherLayout old left.1.0 = survives.crash left.0 left.1.0 left.1.1 in
      (was_clean left.0, (left.1.0, elim may [ inl it ↦ it | inr other ↦ absurd (other (has_layout left.0)) ], left.1.2))

  module _ (still : HasCleanDisk new → old.now.schema ≡ layout → IsSettled old → IsUndone old new) where
    pub kept_still : HasCleanDisk new → ∥ KeepsBook terms new tallies ∥₁
    kept_still now = ∥∥₁_map (kept (was_clean now)) (λ k. (k.0, kept_undone terms old new k.0 k.1 (still now k.1.schema (λ _. k.1.settled)), k.2))

    module _ (differ : Differ) (held : Held) (acts : HasCleanDisk new → old.now.schema ≡ layout → HasActs old.now.trees held) where
      same_as : HasCleanDisk new → (k : KeepsBook terms old tallies) → (sub : Sub) → k.0 sub ≡ held sub
      same_as now k = same_acts old.now.trees differ k.0 held (acts_held terms old.now.trees k.0 k.1.holds) (acts now k.1.schema)

      pub found_only : Settles new → LeavesOnly terms held (leaves terms new)
      found_only settles found left = ∥∥₁_elim (kept (was_clean left.0)) (content_prop terms held found) (λ k.
          along terms k.0 held found (same_as left.0 k) (only_kept terms new k.0 settles (kept_undone terms old new k.0 k.1 (still left.0 k.1.schema (λ _. k.1.settled))) found left))

      pub found_there : (IsTrue new.is_open → new.may_leave new.committed.trees) → HasCleanDisk new → ∥ ((content : Content) × IsContentOf terms held content × leaves terms new content) ∥₁
      found_there stays now = ∥∥₁_map (kept (was_clean now)) (λ k.
          let next = kept_undone terms old new k.0 k.1 (still now k.1.schema (λ _. k.1.settled)) in
          (λ sub. kept_by terms (k.0 sub), along terms k.0 held (λ sub. kept_by terms (k.0 sub)) (same_as now k) (λ sub. refl), kept_leaves terms new k.0 differ (stays next.is_open) now next))

-- ---- a book that was read

pub loaded : {E : Type 0} (hold : PagesHoldTheirActs) (fit : PagesFit) (db : Trees) (rows : List Row) (r : Result (List PageView) E) → IsPermutation (act_rows db) rows
    → IfOk r (λ book. rows ≡ book_act_rows book) → IfOk r (λ book. AllByRecursion IsPage book) → IfOk r (λ book. AreInOrder book) → IfOk r (λ book. HasActs db (acts_in book))
loaded hold fit db rows (Ok book) shown are valid sorted = has_acts hold fit db rows book shown are sorted valid
loaded hold fit db rows (Err e) shown are valid sorted = tt
