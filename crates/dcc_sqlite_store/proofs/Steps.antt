-- One statement after another in a transaction.
use Rattle.std.proofs.Common.{◌≡◌, ◌⊎◌, inl, inr, Option, Some, None, ℕ, zero, suc, ◌+◌, List, [], ◌∷◌, ◌++◌, IsTrue, take, length, refl, sym, ap, subst, ◌∙◌, arith, append-nil, append_assoc, ◌<◌, get_or}
use native.Mathlib.Numerals.{add-one}
use Rattle.std.specs.List.Sorted.{IsPermutation}
use Rattle.std.proofs.lemmas.List.Sorted.{IsPermutation-refl, IsPermutation-trans, IsPermutation-append_left}
use Rattle.sqlite.specs.Order.{Row}
use Rattle.sqlite.specs.Tree.{Trees}
use Rattle.sqlite.specs.State.{State, HasCleanDisk, Survives, KeepsCommit}
use Rattle.sqlite.specs.declared.error.Error.{Error}
use Rattle.sqlite.specs.Steps.{FailsToCommit}
use Rattle.sqlite.proofs.StateLemmas.{survives_then}
use Rattle.dcc_act.specs.declared.entry.Entry.{Entry}
use Rattle.dcc_sqlite_store.specs.Tables.{layout}
use Rattle.dcc_sqlite_rows.specs.Rows.{entry_row, entry_rows_of}
use Rattle.dcc_sqlite_store.specs.inner.Trees.{entry_rows, AddsEntries, HasRun}

pub no_entries : (db : Trees) → AddsEntries [] db db
no_entries db = record { setting = refl; acts = refl; entries = rw append-nil (IsPermutation-refl (entry_rows db)); accounts = refl }

pub entries_then : (a b c : Trees) (some more : List Row) → AddsEntries some a b → AddsEntries more b c → AddsEntries (some ++ more) a c
entries_then a b c some more h k = record {
  setting = k.setting ∙ h.setting;
  acts = k.acts ∙ h.acts;
  entries =
      subst (λ all. IsPermutation all (entry_rows c)) (append_assoc (entry_rows a) some more)
      (IsPermutation-trans ((entry_rows a ++ some) ++ more) (entry_rows b ++ more) (entry_rows c) (IsPermutation-append_left more (entry_rows a ++ some) (entry_rows b) h.entries) k.entries);
  accounts = k.accounts ∙ h.accounts;
}

-- the rows up to one entry more
rows_suc : (sub : List ℕ) (place line : ℕ) (es : List Entry) (i : ℕ) (e : Entry) → i < length es
    → entry_rows_of sub place line (take (suc i) es) ≡ entry_rows_of sub place line (take i es) ++ entry_row sub place (line + i + 1) (get_or es i e) ∷ []
rows_suc sub place line [] i e below = absurd (omega (arith, below))
rows_suc sub place line (x ∷ es) zero e below = ap (λ (n : ℕ). entry_row sub place n x ∷ []) (omega arith)
rows_suc sub place line (x ∷ es) (suc i) e below =
    ap (λ (rows : List Row). entry_row sub place (line + 1) x ∷ rows)
    (rows_suc sub place (line + 1) es i e (omega (arith, below)) ∙ ap (λ (n : ℕ). entry_rows_of sub place (line + 1) (take i es) ++ entry_row sub place n (get_or es i e) ∷ []) (omega arith))

rows_more : (sub : List ℕ) (place : ℕ) (es : List Entry) (i : ℕ) (e : Entry) → i < length es
    → entry_rows_of sub place 0 (take (i + 1) es) ≡ entry_rows_of sub place 0 (take i es) ++ entry_row sub place (i + 1) (get_or es i e) ∷ []
rows_more sub place es i e below =
    ap (λ (n : ℕ). entry_rows_of sub place 0 (take n es)) (add-one i) ∙ rows_suc sub place 0 es i e below
    ∙ ap (λ (n : ℕ). entry_rows_of sub place 0 (take i es) ++ entry_row sub place n (get_or es i e) ∷ []) (omega arith)

pub one_more : (old mid new : State) (sub : List ℕ) (place : ℕ) (es : List Entry) (i : ℕ) (e : Entry) → i < length es
    → HasRun (AddsEntries (entry_rows_of sub place 0 (take i es))) old mid → HasRun (AddsEntries (entry_row sub place (i + 1) (get_or es i e) ∷ [])) mid new
    → HasRun (AddsEntries (entry_rows_of sub place 0 (take (i + 1) es))) old new
one_more old mid new sub place es i e below h k = record {
  inside = k.inside;
  committed = k.committed ∙ h.committed;
  schema = k.schema;
  changes = rw (rows_more sub place es i e below) (entries_then old.now.trees mid.now.trees new.now.trees _ _ h.changes k.changes);
}

pub nothing_run : (s : State) → IsTrue s.in_transaction → s.now.schema ≡ layout → HasRun (AddsEntries []) s s
nothing_run s inside has = record { inside = inside; committed = refl; schema = has; changes = no_entries s.now.trees }

-- ---- what a statement leaves when it does nothing, and after another

pub survives_nothing : (s : State) → Survives s s (λ _. ⊥)
survives_nothing s = record { clean = omega arith; shield = λ h. h; counts = omega arith; limit = refl; closes = λ _ h. inl h; crash = λ _ db h. inl h }

pub survives_both : (a b c : State) → Survives a b (λ _. ⊥) → Survives b c (λ _. ⊥) → Survives a c (λ _. ⊥)
survives_both a b c = survives_then a b c _ _ _ (λ _ db h. h) (λ _ db h. h)

pub keeps_nothing : (s : State) → KeepsCommit s s
keeps_nothing s = record { was_open = λ h. h; committed = λ h. refl }

pub keeps_both : (a b c : State) → KeepsCommit a b → KeepsCommit b c → KeepsCommit a c
keeps_both a b c h k = record { was_open = λ o. h.was_open (k.was_open o); committed = λ o. k.committed o ∙ h.committed (k.was_open o) }

pub earlier : (a b : State) (P : Trees → Type 0) → Survives a b P → HasCleanDisk b → HasCleanDisk a
earlier a b P s clean = omega (arith, s.clean, clean)

pub cases_option : (o : Option ℕ) → (o ≡ None) ⊎ ((n : ℕ) × (o ≡ Some n))
cases_option None = inl refl
cases_option (Some n) = inr (n, refl)

-- a commit that failed leaves what was committed before
pub undone : (a mid end : State) (e : Error) → KeepsCommit a mid → IsTrue mid.in_transaction → FailsToCommit mid end e → IsTrue end.is_open → (end.now ≡ a.committed) × (end.committed ≡ a.committed)
undone a mid end e kept inside (inl fails) is_open =
    let back = fails.3.undone is_open in
    let was = kept.committed (fails.3.was_open is_open) in
    (back.0 ∙ was, back.1 ∙ was)
undone a mid end e kept inside (inr ended) is_open = absurd (let e = sym inside ∙ ended.1 in cc)
