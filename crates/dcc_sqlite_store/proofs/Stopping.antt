-- What a stop leaves of the tables.
use Rattle.std.proofs.Common.{◌≡◌, ◌⊎◌, inl, inr, ◌+◌, true, IsTrue, List, [], ◌∷◌, length, sym, ap, subst, ◌∙◌, arith}
use Rattle.std.proofs.Math.Logic.{∥∥₁_elim}
use Rattle.std.proofs.Props.{props}
use Rattle.std.proofs.lemmas.Bool.{cases_eq}
use Rattle.std.proofs.lemmas.List.{length-append}
use Rattle.sqlite.specs.Tree.{Trees}
use Rattle.sqlite.specs.Effect.{Database}
use Rattle.sqlite.specs.State.{State, HasCleanDisk, Survives}
use Rattle.dcc_tariff.specs.Terms.{TermsView}
use Rattle.dcc_act.specs.declared.act.Act.{Act}
use Rattle.dcc_act.specs.declared.sub.Sub.{Sub}
use Rattle.dcc_act.specs.Subs.{SameAreEqual}
use Rattle.dcc_act_codec.specs.Limits.{IsAct}
use Rattle.dcc_act_codec.specs.Records.{record_of}
use Rattle.dcc_store.specs.Books.{Held}
use Rattle.dcc_store.specs.Batches.{AdditionView, subs_of, with_all, are_apart}
use Rattle.dcc_store.specs.Contents.{Content, Kept, IsContentOf, kept_by}
use Rattle.dcc_store.specs.Laws.{AccountsGrow, BatchesGrowEach}
use Rattle.dcc_store.specs.Stops.{LeavesOnly, LeavesEither}
use Rattle.dcc_sqlite_store.specs.Content.{HoldsBook, leaves}
use Rattle.dcc_sqlite_store.specs.inner.Trees.{HasCommitted, IsUndone}
use Rattle.dcc_sqlite_store.specs.inner.Steps.{steps_behind, AppendsAll}
use Rattle.dcc_sqlite_store.specs.inner.Keeping.{Keeps}
use Rattle.dcc_sqlite_store.proofs.Books.{one_book}
use Rattle.dcc_sqlite_store.proofs.Batches.{AreReady, all_grow, keyed_after, all_alike}
use Rattle.dcc_sqlite_rows.specs.declared.tally.Tally.{Tally}

-- while it is open, a stop leaves the last commit
abbrev pub Settles : State → Type 0
Settles s = IsTrue s.is_open → (db : Trees) → s.may_leave db → db ≡ s.committed.trees

-- records that are read back are what was written
abbrev pub Differ : Type 0
Differ = (a b : Act) → IsAct a → IsAct b → record_of a ≡ record_of b → a ≡ b

content_along : (terms : TermsView) (a b : Held) (found : Content) → ((s : Sub) → a s ≡ b s) → IsContentOf terms a found → IsContentOf terms b found
content_along terms a b found same is s = is s ∙ ap (kept_by terms) (same s)

pub content_prop : (terms : TermsView) (held : Held) (found : Content) → IsProp (IsContentOf terms held found)
content_prop terms held found = hlevel props

-- what a connection that keeps a book is left as
pub kept_leaves : (terms : TermsView) (s : State) (held : Held) → Differ → s.may_leave s.committed.trees → HasCleanDisk s → Keeps terms s held → leaves terms s (λ sub. kept_by terms (held sub))
kept_leaves terms s held differ stays clean k =
    let holds : HoldsBook terms s.committed.trees held = subst (λ (d : Database). HoldsBook terms d.trees held) k.settled k.holds in
    (clean, (s.committed.trees, stays, λ other is sub. ap (kept_by terms) (one_book terms s.committed.trees differ held other holds is sub)))

pub only_kept : (terms : TermsView) (s : State) (held : Held) → Settles s → Keeps terms s held → LeavesOnly terms held (leaves terms s)
only_kept terms s held settles k found h =
    let same : h.1.0 ≡ s.now.trees = settles k.is_open h.1.0 h.1.1 ∙ ap (λ (d : Database). d.trees) (sym k.settled) in
    h.1.2 held (subst (λ (t : Trees). HoldsBook terms t held) (sym same) k.holds)

pub kept_undone : (terms : TermsView) (old new : State) (held : Held) → Keeps terms old held → IsUndone old new → Keeps terms new held
kept_undone terms old new held k it =
    let same : new.now ≡ old.now = it.now_is ∙ sym k.settled in
    record {
      is_open = it.is_open;
      autocommit = it.autocommit;
      settled = it.now_is ∙ sym it.committed_is;
      schema = ap (λ (d : Database). d.schema) same ∙ k.schema;
      keyed = rw same k.keyed;
      holds = subst (λ (d : Database). HoldsBook terms d.trees held) (sym same) k.holds;
    }

module _ (terms : TermsView) (same : SameAreEqual) (grow : AccountsGrow) (old new : State) (held : Held) (tallies : List (Sub × Tally)) (batch : List AdditionView) (k : Keeps terms old held) (apart : are_apart (subs_of batch) ≡ true)
    (ready : AreReady terms tallies held batch) where
  grown : (db : Trees) → AppendsAll (steps_behind tallies batch) old.now.trees db → HoldsBook terms db (with_all batch held)
  grown db changed = all_grow terms same grow tallies batch old.now.trees db held apart ready k.holds changed

  pub kept_grown : HasCommitted (AppendsAll (steps_behind tallies batch)) old new → Keeps terms new (with_all batch held)
  kept_grown it = record {
    is_open = it.is_open;
    autocommit = it.autocommit;
    settled = it.settled;
    schema = it.schema;
    keyed = keyed_after (steps_behind tallies batch) old.now.trees new.now.trees it.changes k.keyed;
    holds = grown new.now.trees it.changes;
  }

  pub either_left : Settles old → Survives old new (AppendsAll (steps_behind tallies batch) old.now.trees) → LeavesEither terms held (with_all batch held) (leaves terms new)
  either_left settles survives found h =
      elim (survives.crash h.0 h.1.0 h.1.1) [
        | inl before ↦ inl (only_kept terms old held settles k found (omega (arith, survives.clean, h.0), (h.1.0, before, h.1.2)))
        | inr added ↦ inr (h.1.2 (with_all batch held) (grown h.1.0 added))
      ]

-- ---- the book that the caller knows of

-- a book of which a stop leaves the content and nothing else is the one that is kept
pub same_held : (terms : TermsView) (s : State) (held known : Held) → Differ → s.may_leave s.committed.trees → HasCleanDisk s → Keeps terms s held → LeavesOnly terms known (leaves terms s) → (sub : Sub) → held sub ≡ known sub
same_held terms s held known differ stays clean k only sub = ap (λ (kept : Kept). kept.acts) (only (λ t. kept_by terms (held t)) (kept_leaves terms s held differ stays clean k) sub)

pub grown_along : (terms : TermsView) (batch : List AdditionView) (a b : Held) (found : Content) → ((s : Sub) → a s ≡ b s) → IsContentOf terms (with_all batch a) found → IsContentOf terms (with_all batch b) found
grown_along terms batch a b found same = content_along terms (with_all batch a) (with_all batch b) found (all_alike batch a b same)

pub along : (terms : TermsView) (a b : Held) (found : Content) → ((s : Sub) → a s ≡ b s) → IsContentOf terms a found → IsContentOf terms b found
along = content_along

-- the acts of a batch or none: the number of acts of its first subscriber tells
pub decided : (terms : TermsView) (own : BatchesGrowEach) (held : Held) (batch : List AdditionView) (found : Content) → are_apart (subs_of batch) ≡ true → ∥ (IsContentOf terms held found ⊎ IsContentOf terms (with_all batch held) found) ∥₁
    → IsContentOf terms held found ⊎ IsContentOf terms (with_all batch held) found
decided terms own held [] found apart known = inl (∥∥₁_elim known (content_prop terms held found) (elim [ inl x ↦ x | inr y ↦ y ]))
decided terms own held (one ∷ batch) found apart known =
    let count = length (found one.sub).acts in
    let one_more : IsContentOf terms (with_all (one ∷ batch) held) found → count ≡ length (held one.sub) + 1 = λ is.
    ap (λ (kept : Kept). length kept.acts) (is one.sub) ∙ ap length (own [] one batch held apart) ∙ length-append (held one.sub) (one.act ∷ []) in
    let none : IsContentOf terms held found → count ≡ length (held one.sub) = λ is. ap (λ (kept : Kept). length kept.acts) (is one.sub) in
    elim (cases_eq count (length (held one.sub))) [
      | inl even ↦ inl (∥∥₁_elim known (content_prop terms held found) (elim [ inl x ↦ x | inr y ↦ absurd (let e = one_more y in omega (arith, e, even)) ]))
      | inr odd ↦ inr (∥∥₁_elim known (content_prop terms (with_all (one ∷ batch) held) found) (elim [ inl x ↦ absurd (odd (none x)) | inr y ↦ y ]))
    ]
