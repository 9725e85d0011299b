-- A store that an upgrade was stopped in, upgraded if it is of layout 1, and opened.
use Rattle.std.proofs.Common.{◌≡◌, ◌≢◌, ◌⊎◌, inl, inr, ℕ, pos, Option, Some, None, IsTrue, [], ◌∷◌, refl, sym, ap, subst, ◌∙◌}
use Rattle.std.proofs.Math.Logic.{∥∥₁_elim, ∥∥₁_map}
use Rattle.std.proofs.Props.{props}
use Rattle.std.specs.Option.{IfSome}
use Rattle.sqlite.specs.Effect.{Database}
use Rattle.sqlite.specs.Held.{Held as Connected, state}
use Rattle.sqlite.specs.Schema.{Schema}
use Rattle.sqlite.specs.State.{State, HasCleanDisk, Opens, IsLive}
use Rattle.sqlite.specs.Tree.{Trees}
use Rattle.sqlite_schema.specs.contracts.schema.Schema.{the_row}
use Rattle.sqlite_trees.specs.declared.store.Store.{Ghosts}
use Rattle.dcc_tariff.specs.Terms.{TermsView}
use Rattle.dcc_store.specs.Books.{Held}
use Rattle.dcc_store.specs.Contents.{Content, IsContentOf}
use Rattle.dcc_sqlite_store.specs.Content.{HoldsBook, HoldsOldBook}
use Rattle.dcc_sqlite_store.specs.Opening.{HasOtherSetting}
use Rattle.dcc_sqlite_store.specs.Setting.{setting_row, old_setting_row}
use Rattle.dcc_sqlite_store.specs.Tables.{no_schema, layout}
use Rattle.dcc_sqlite_store.specs.Trees.{IsStore, IsUndone, StoresHaveTheLayout, setting_rows}
use Rattle.dcc_sqlite_store.specs.Upgrade.{HasOldSetting, IsUpgraded}
use Rattle.dcc_sqlite_store.specs.declared.fault.OpenFault.{OpenFault}
use Rattle.dcc_sqlite_store.specs.declared.fault.OpenFault.TheVariants as f
use Rattle.dcc_sqlite_store.specs.declared.setting.Setting.{Setting}
use Rattle.dcc_stops.specs.Upgrades.{IsOldStore, IsOldOrUpgraded, HoldsJust, IsMemoryOrDevice}
use Rattle.dcc_stops.proofs.OldBooks.{OldDiffer, one_old_book}

-- the setting is of one layout
one_layout : (setting : Setting) (db : Trees) → HasOldSetting setting db → setting_rows db ≡ setting_row setting ∷ [] → ⊥
one_layout setting db old new = let e : old_setting_row setting ∷ [] ≡ setting_row setting ∷ [] = sym old ∙ new in let n : pos 1 ≡ pos 2 = cc in cc

-- a stop leaves what is committed while the connection is open
abbrev pub Settles : State → Type 0
Settles s = IsTrue s.is_open → (db : Trees) → s.may_leave db → db ≡ s.committed.trees

schema_prop : (s : Schema) → IsProp (s ≡ layout)
schema_prop s = hlevel (props, the_row.coded)

some_schema : no_schema ≡ layout → ⊥
some_schema e = let t = ap (λ (s : Schema). s.tables) e in cc

content_prop : (terms : TermsView) (held : Held) (found : Content) → IsProp (IsContentOf terms held found)
content_prop terms held found = hlevel props

pub just_prop : (terms : TermsView) (s : State) (held : Held) → IsProp (HoldsJust terms s held)
just_prop terms s held = hlevel props

-- which fault it is, is known
pub decided : (fault : OpenFault) → ∥ IsMemoryOrDevice fault ∥₁ → IsMemoryOrDevice fault
decided f.Memory it = inl refl
decided f.Device it = inr refl
decided f.Empty it = absurd (∥∥₁_elim it (hlevel props) (λ k. elim k [ inl e ↦ let x = e in cc | inr e ↦ let x = e in cc ]))
decided f.Layout it = absurd (∥∥₁_elim it (hlevel props) (λ k. elim k [ inl e ↦ let x = e in cc | inr e ↦ let x = e in cc ]))
decided f.Damaged it = absurd (∥∥₁_elim it (hlevel props) (λ k. elim k [ inl e ↦ let x = e in cc | inr e ↦ let x = e in cc ]))
decided f.Disagree it = absurd (∥∥₁_elim it (hlevel props) (λ k. elim k [ inl e ↦ let x = e in cc | inr e ↦ let x = e in cc ]))

module _ (differ : OldDiffer) (has_layout : StoresHaveTheLayout) (setting : Setting) (old : Trees) (held : Held) (it : IsOldStore setting old held) where
  -- it is a store of layout 2 that holds the book
  abbrev IsReady : Trees → Type 0
  IsReady db = HoldsBook setting.terms db held × (setting_rows db ≡ setting_row setting ∷ [])

  ready_from : (one db : Trees) → one ≡ old → IsUpgraded setting one db → IsReady db
  ready_from one db same u =
      let was : HoldsOldBook setting.terms old u.held = subst (λ (t : Trees). HoldsOldBook setting.terms t u.held) same u.was in
      (subst (HoldsBook setting.terms db) (one_old_book differ setting.terms old u.held held was it.book) u.is, u.is_of)

  -- the records over it hold just the book
  pub holds_just : (mid new : State) → mid.now ≡ mid.committed → ∥ IsReady mid.now.trees ∥₁ → IsUndone mid new → Settles new → HoldsJust setting.terms new held
  holds_just mid new settled ready undone settles =
      let same : new.now ≡ mid.now = undone.now_is ∙ sym settled in
      record {
        book = ∥∥₁_map ready (λ r. subst (λ (d : Database). HoldsBook setting.terms d.trees held) (sym same) r.0);
        left = λ found f. ∥∥₁_elim ready (content_prop setting.terms held found) (λ r.
            let at : f.1.0 ≡ mid.now.trees = settles undone.is_open f.1.0 f.1.1 ∙ ap (λ (d : Database). d.trees) (undone.committed_is ∙ sym settled) in
            f.1.2 held (subst (λ (db : Trees). HoldsBook setting.terms db held) (sym at) r.0));
      }

  -- and they are opened, unless memory is refused or the database fails
  pub opens : (mid : State) (fault : OpenFault) → ∥ IsReady mid.now.trees ∥₁ → mid.now.schema ≡ layout → (fault ≡ f.Empty → mid.now.schema ≡ no_schema)
      → (fault ≡ f.Layout → (mid.now.schema ≢ layout) ⊎ HasOtherSetting setting mid.now.trees)
      → ((fault ≡ f.Damaged) ⊎ (fault ≡ f.Disagree) → (book : Held) → ¬ HoldsBook setting.terms mid.now.trees book) → (is : OpenFault) → fault ≡ is → IsMemoryOrDevice fault
  opens mid fault ready schema empty other whole f.Memory is = inl is
  opens mid fault ready schema empty other whole f.Device is = inr is
  opens mid fault ready schema empty other whole f.Empty is = absurd (some_schema (sym (empty is) ∙ schema))
  opens mid fault ready schema empty other whole f.Layout is = absurd (elim (other is) [
    | inl none ↦ none schema
    | inr another ↦ ∥∥₁_elim ready (hlevel props) (λ r. another r.1)
  ])
  opens mid fault ready schema empty other whole f.Damaged is = absurd (∥∥₁_elim ready (hlevel props) (λ r. whole (inl is) held r.0))
  opens mid fault ready schema empty other whole f.Disagree is = absurd (∥∥₁_elim ready (hlevel props) (λ r. whole (inr is) held r.0))

  module _ {S : Type 0} (g : Ghosts S) (conn : Connected S) (opened : Opens (state g conn)) (live : IsLive (state g conn)) (either : IsOldOrUpgraded setting old (state g conn).now.trees) where
    has_tables : conn.schema ≡ layout
    has_tables = elim either [
      | inl same ↦ has_layout (state g conn).now (subst IsStore (sym same) it.store) (live opened.is_open).0
      | inr upgraded ↦ ∥∥₁_elim upgraded (schema_prop conn.schema) (λ u. has_layout (state g conn).now u.store (live opened.is_open).0)
    ]

    -- a store of layout 2 isn't one of layout 1, which is the old one
    is_old : HasOldSetting setting (state g conn).now.trees → (state g conn).now.trees ≡ old
    is_old of = elim either [
      | inl same ↦ same
      | inr upgraded ↦ absurd (∥∥₁_elim upgraded (hlevel props) (λ u. one_layout setting (state g conn).now.trees of u.is_of))
    ]

    -- so an upgrade isn't refused for its rows
    pub upgrades : (Clean : Type 0) → Clean → (fault : OpenFault) → (fault ≢ f.Empty) × (fault ≢ f.Layout)
        → ((fault ≡ f.Damaged) ⊎ (fault ≡ f.Disagree) → (conn.schema ≡ layout) × (Clean → HasOldSetting setting (state g conn).now.trees))
        → ((fault ≡ f.Damaged) ⊎ (fault ≡ f.Disagree) → Clean → (book : Held) → ¬ HoldsOldBook setting.terms (state g conn).now.trees book) → IsMemoryOrDevice fault
    upgrades Clean clean f.Memory not ours whole = inl refl
    upgrades Clean clean f.Device not ours whole = inr refl
    upgrades Clean clean f.Empty not ours whole = absurd (not.0 refl)
    upgrades Clean clean f.Layout not ours whole = absurd (not.1 refl)
    upgrades Clean clean f.Damaged not ours whole =
        absurd (whole (inl refl) clean held (subst (λ (db : Trees). HoldsOldBook setting.terms db held) (sym (is_old ((ours (inl refl)).1 clean))) it.book))
    upgrades Clean clean f.Disagree not ours whole =
        absurd (whole (inr refl) clean held (subst (λ (db : Trees). HoldsOldBook setting.terms db held) (sym (is_old ((ours (inr refl)).1 clean))) it.book))

    module _ (mid : Connected S) where
      abbrev pub Upgraded : ℕ → Type 0
      Upgraded n = HasCleanDisk (state g mid) → ∥ IsUpgraded setting (state g conn).now.trees (state g mid).now.trees ∥₁

      abbrev pub Committed : ℕ → Type 0
      Committed n = HasCleanDisk (state g mid) → IsTrue (state g mid).is_open × ((state g mid).now ≡ (state g mid).committed) × (mid.schema ≡ layout)

      module _ (count : Option ℕ) (clean : HasCleanDisk (state g mid)) (upgraded : IfSome count Upgraded) (committed : IfSome count Committed)
          (still : count ≡ None → HasCleanDisk (state g mid) → (mid ≡ conn) ⊎ IsUndone (state g conn) (state g mid))
          (other : count ≡ None → (conn.schema ≢ layout) ⊎ ((conn.schema ≡ layout) × (HasCleanDisk (state g mid) → ¬ HasOldSetting setting (state g conn).now.trees))) where
        now_is : count ≡ None → (state g mid).now ≡ (state g conn).now
        now_is none = elim (still none clean) [
          | inl same ↦ ap (λ (h : Connected S). (state g h).now) same
          | inr undone ↦ undone.now_is ∙ sym opened.clean
        ]

        pub settled : (is : Option ℕ) → count ≡ is → (state g mid).now ≡ (state g mid).committed
        settled (Some n) is = (subst (λ (o : Option ℕ). IfSome o Committed) is committed clean).1
        settled None is = elim (still is clean) [
          | inl same ↦ subst (λ (h : Connected S). (state g h).now ≡ (state g h).committed) (sym same) opened.clean
          | inr undone ↦ undone.now_is ∙ sym undone.committed_is
        ]

        pub has_layout_still : (is : Option ℕ) → count ≡ is → mid.schema ≡ layout
        has_layout_still (Some n) is = (subst (λ (o : Option ℕ). IfSome o Committed) is committed clean).2
        has_layout_still None is = ap (λ (d : Database). d.schema) (now_is is) ∙ has_tables

        -- the store is of layout 2 and holds the book
        pub ready : (is : Option ℕ) → count ≡ is → ∥ IsReady (state g mid).now.trees ∥₁
        ready (Some n) is =
            let made = subst (λ (o : Option ℕ). IfSome o Upgraded) is upgraded clean in
            elim either [
              | inl same ↦ ∥∥₁_map made (λ u. ready_from (state g conn).now.trees (state g mid).now.trees same u)
              | inr before ↦ absurd (∥∥₁_elim before (hlevel props) (λ v. ∥∥₁_elim made (hlevel props) (λ u. one_layout setting (state g conn).now.trees u.was_of v.is_of)))
            ]
        ready None is = elim either [
          | inl same ↦ absurd (elim (other is) [ inl none ↦ none has_tables | inr mine ↦ mine.1 clean (subst (HasOldSetting setting) (sym same) it.of) ])
          | inr before ↦ ∥∥₁_map before (λ v. subst (λ (d : Database). IsReady d.trees) (sym (now_is is)) (ready_from old (state g conn).now.trees refl v))
        ]
