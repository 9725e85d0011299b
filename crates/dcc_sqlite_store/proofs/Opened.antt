-- From the rows that were read to the book that is kept.
use Rattle.std.proofs.Common.{◌≡◌, ◌≢◌, ◌⊎◌, inl, inr, ◌≤◌, IsTrue, List, refl, sym, ap, subst, ◌∙◌, arith}
use Rattle.std.proofs.Math.Logic.{∥∥₁_elim, ∥∥₁_map}
use Rattle.std.proofs.Props.{props}
use Rattle.sqlite.specs.Schema.{Schema}
use Rattle.sqlite.specs.View.{doubt}
use Rattle.sqlite.specs.Order.{Row}
use Rattle.sqlite.specs.Effect.{Database}
use Rattle.sqlite.specs.Tree.{Trees}
use Rattle.sqlite.specs.State.{State, HasCleanDisk, IsUnchanged, Survives, Opens, IsLive}
use Rattle.sqlite.proofs.StateLemmas.{survives_then, survives_weaker}
use Rattle.sqlite.proofs.Callers.{unchanged_then}
use Rattle.dcc_tariff.specs.Terms.{TermsView}
use Rattle.dcc_act.specs.declared.sub.Sub.{Sub}
use Rattle.dcc_store.specs.Books.{Held, PageView, acts_in}
use Rattle.dcc_store.specs.Contents.{Content}
use Rattle.dcc_store.specs.Stops.{LeavesEither}
use Rattle.dcc_sqlite_rows.specs.declared.tally.Tally.{Tally}
use Rattle.dcc_sqlite_rows.specs.Stored.{Rows, AreOfBook}
use Rattle.dcc_sqlite_rows.specs.Held.{AreJust, IsActRow, IsEntryRow, IsAccountRow, PagesHoldTheirActs, PagesHoldTheirEntries, PagesHoldTheirAccounts, PagesMakeABook, PagesFit, PagesAreOfSubs}
use Rattle.dcc_sqlite_store.specs.Tables.{no_schema, layout}
use Rattle.dcc_sqlite_store.specs.Trees.{account_tree, act_rows, entry_rows, account_rows, IsUndone, IsStore}
use Rattle.dcc_sqlite_store.specs.declared.setting.Setting.{Setting}
use Rattle.dcc_sqlite_store.specs.declared.fault.OpenFault.{OpenFault}
use Rattle.dcc_sqlite_store.specs.declared.fault.OpenFault.TheVariants as f
use Rattle.dcc_sqlite_store.specs.Content.{HoldsBook, leaves}
use Rattle.dcc_sqlite_store.specs.Opening.{ShowsRows, FindsBook, HasOtherSetting, IsRefusedAfter}
use Rattle.dcc_sqlite_store.specs.inner.Trees.{IsKeyed}
use Rattle.dcc_sqlite_store.specs.inner.Tallies.{AreTallies}
use Rattle.dcc_sqlite_store.specs.inner.Reading.{IsSettled, HasOtherLayout}
use Rattle.dcc_sqlite_store.specs.inner.Keeping.{Keeps, KeepsBook}
use Rattle.dcc_sqlite_store.proofs.Answering.{shows_acts, shows_entries, shows_accounts}
use Rattle.dcc_sqlite_store.proofs.Loads.{just_along, schema_prop}
use Rattle.dcc_sqlite_store.proofs.Books.{one_book}
use Rattle.dcc_sqlite_store.proofs.Layouts.{has_layout as layout_alone}
use Rattle.dcc_sqlite_store.proofs.Ordered.{holds_some}
use Rattle.dcc_sqlite_store.proofs.Stopping.{Differ, Settles, only_kept, along}

-- ---- one read after another

module _ (a b c : State) (clean : doubt b.is_clean ≤ doubt c.is_clean) (same : HasCleanDisk b → a.now.schema ≡ layout → IsUnchanged a b) where
  pub was_clean : HasCleanDisk c → HasCleanDisk b
  was_clean now = omega (arith, clean, now)

  -- what the first leaves is what the next begins with
  pub layout_then : HasCleanDisk c → a.now.schema ≡ layout → b.now.schema ≡ layout
  layout_then now has = subst (λ (d : Database). d.schema ≡ layout) (sym (same (was_clean now) has).0.now_is) has

  pub settled_then : HasCleanDisk c → a.now.schema ≡ layout → IsSettled a → IsSettled b
  settled_then now has settled is_open = let u = (same (was_clean now) has).0 in u.now_is ∙ settled u.was_open ∙ sym u.committed_is

  pub undone_then : HasCleanDisk c → a.now.schema ≡ layout → IsUndone b c → IsUndone a c
  undone_then now has it =
      let u = (same (was_clean now) has).0 in
      record { is_open = it.is_open; autocommit = it.autocommit; now_is = it.now_is ∙ u.committed_is; committed_is = it.committed_is ∙ u.committed_is }

  pub crash_then : Survives a b (HasOtherLayout a) → Survives b c (HasOtherLayout b) → Survives a c (HasOtherLayout a)
  crash_then = survives_then a b c (HasOtherLayout a) (HasOtherLayout b) (HasOtherLayout a) (λ _ db other. other) (λ now db other has. other (layout_then now has))

  pub same_then : (HasCleanDisk c → b.now.schema ≡ layout → IsUnchanged b c) → HasCleanDisk c → a.now.schema ≡ layout → IsUnchanged a c
  same_then next now has = unchanged_then a b c (same (was_clean now) has) (next now (layout_then now has))

pub no_commit : (old new : State) → old.now.schema ≡ layout → Survives old new (HasOtherLayout old) → Survives old new (λ _. ⊥)
no_commit old new has = survives_weaker old new (HasOtherLayout old) (λ _. ⊥) (λ _ db other. other has)

-- ---- the book

module _ (acts : PagesHoldTheirActs) (entries : PagesHoldTheirEntries) (accounts : PagesHoldTheirAccounts) (book : PagesMakeABook) (fit : PagesFit) (of : PagesAreOfSubs) where
  holds_pages : (terms : TermsView) (db : Trees) (rows : Rows) (pages : List PageView) → ShowsRows db rows → AreOfBook terms pages rows → HoldsBook terms db (acts_in pages)
  holds_pages terms db rows pages shown it = record {
    own = book terms pages it.own;
    subs = of pages it.valid;
    fits = fit pages it.valid;
    acts = just_along rows.acts (act_rows db) (IsActRow (acts_in pages)) (shows_acts db rows.acts shown.acts) (subst (λ (all : List Row). AreJust all (IsActRow (acts_in pages))) (sym it.acts) (acts pages it.ordered it.valid));
    entries = just_along rows.entries (entry_rows db) (IsEntryRow terms (acts_in pages)) (shows_entries db rows.entries shown.entries) (subst (λ (all : List Row). AreJust all (IsEntryRow terms (acts_in pages))) (sym it.entries) (entries terms pages it.ordered it.valid));
    accounts = just_along rows.accounts (account_rows db) (IsAccountRow terms (acts_in pages)) (shows_accounts db rows.accounts shown.accounts) (subst (λ (all : List Row). AreJust all (IsAccountRow terms (acts_in pages))) (sym it.accounts) (accounts terms pages it.ordered it.valid));
  }

  pub keeps_pages : (terms : TermsView) (old new : State) (rows : Rows) (pages : List PageView) (tallies : List (Sub × Tally)) → IsUndone old new → IsSettled old → IsTrue old.is_open → old.now.schema ≡ layout → IsKeyed (old.now.trees account_tree)
      → ShowsRows old.now.trees rows → AreOfBook terms pages rows → AreTallies terms tallies (acts_in pages) → KeepsBook terms new tallies
  keeps_pages terms old new rows pages tallies it settled was_open has keyed shown are tallied =
      let same : old.now ≡ new.now = settled was_open ∙ sym it.now_is in
      let kept : Keeps terms new (acts_in pages) = record {
        is_open = it.is_open;
        autocommit = it.autocommit;
        settled = it.now_is ∙ sym it.committed_is;
        schema = subst (λ (d : Database). d.schema ≡ layout) same has;
        keyed = subst (λ (d : Database). IsKeyed (d.trees account_tree)) same keyed;
        holds = subst (λ (d : Database). HoldsBook terms d.trees (acts_in pages)) same (holds_pages terms old.now.trees rows pages shown are);
      } in
      (acts_in pages, kept, tallied)

-- the records that are opened hold the book that the tables had
pub finds_book : (terms : TermsView) (old new : State) (tallies : List (Sub × Tally)) → Settles new → IsUndone old new → KeepsBook terms new tallies → FindsBook terms old.committed.trees (leaves terms new)
finds_book terms old new tallies settles it k =
    (k.0, subst (λ (d : Database). HoldsBook terms d.trees k.0) it.now_is k.1.holds, only_kept terms new k.0 settles k.1)

-- what a store is opened with after a stop is among what the stop left
pub left_by_stop : (terms before : TermsView) (old mid new : State) → Differ → terms ≡ before → HasCleanDisk old → old.may_leave mid.committed.trees → FindsBook terms mid.committed.trees (leaves terms new)
    → (found : Content) → leaves terms new found → leaves before old found
left_by_stop terms before old mid new differ same clean may book found left =
    subst (λ (t : TermsView). leaves t old found) same
    (clean, (mid.committed.trees, may, λ held is. along terms book.0 held found (one_book terms mid.committed.trees differ book.0 held book.1 is) (book.2 found left)))

-- why what a stop left isn't opened
module _ (terms : TermsView) (old mid : State) (setting : Setting) (fault : OpenFault) (one other : Held) (opened : Opens mid × IsLive mid) (clean : HasCleanDisk old) (may : ∥ old.may_leave mid.committed.trees ∥₁)
    (store : (db : Trees) → old.may_leave db → ∥ IsStore db ∥₁) (same : setting.terms ≡ terms) (either : LeavesEither terms one other (leaves terms old)) where
  same_now : mid.now ≡ mid.committed
  same_now = opened.0.clean

  is_layout : mid.now.schema ≡ layout
  is_layout = ∥∥₁_elim may (schema_prop mid.now.schema) (λ it. ∥∥₁_elim (store mid.committed.trees it) (schema_prop mid.now.schema) (λ db.
      layout_alone mid.now (subst (λ (d : Database). IsStore d.trees) (sym same_now) db) (opened.1 opened.0.is_open).0))

  holds_some_book : ((held : Held) → ¬ HoldsBook setting.terms mid.now.trees held) → ⊥
  holds_some_book none = ∥∥₁_elim may (hlevel props) (λ it. holds_some terms old one other mid.committed.trees clean it either (λ held book.
      none held (subst (λ (t : TermsView). HoldsBook t mid.now.trees held) (sym same) (subst (λ (d : Database). HoldsBook terms d.trees held) (sym same_now) book))))

  some_schema : no_schema ≡ layout → ⊥
  some_schema e = let t = ap (λ (s : Schema). s.tables) e in cc

  by_fault : ((fault ≡ f.Empty) → mid.now.schema ≡ no_schema) → ((fault ≡ f.Layout) → (mid.now.schema ≢ layout) ⊎ HasOtherSetting setting mid.now.trees)
      → ((fault ≡ f.Damaged) ⊎ (fault ≡ f.Disagree) → (held : Held) → ¬ HoldsBook setting.terms mid.now.trees held) → (it : OpenFault) → fault ≡ it → IsRefusedAfter old.may_leave setting fault
  by_fault empty layout_is whole f.Memory is = inl is
  by_fault empty layout_is whole f.Device is = inr (inl is)
  by_fault empty layout_is whole f.Empty is = absurd (some_schema (sym (empty is) ∙ is_layout))
  by_fault empty layout_is whole f.Layout is = elim (layout_is is) [
    | inl none ↦ absurd (none is_layout)
    | inr mine ↦ inr (inr (is, ∥∥₁_map may (λ it. (mid.committed.trees, it, subst (λ (d : Database). HasOtherSetting setting d.trees) same_now mine))))
  ]
  by_fault empty layout_is whole f.Damaged is = absurd (holds_some_book (whole (inl is)))
  by_fault empty layout_is whole f.Disagree is = absurd (holds_some_book (whole (inr is)))

  pub refused_after : ((fault ≡ f.Empty) → mid.now.schema ≡ no_schema) → ((fault ≡ f.Layout) → (mid.now.schema ≢ layout) ⊎ HasOtherSetting setting mid.now.trees)
      → ((fault ≡ f.Damaged) ⊎ (fault ≡ f.Disagree) → (held : Held) → ¬ HoldsBook setting.terms mid.now.trees held) → IsRefusedAfter old.may_leave setting fault
  refused_after empty layout_is whole = by_fault empty layout_is whole fault refl
