-- What SELECT shows of a table, and what it leaves.
use Rattle.std.proofs.Common.{◌≡◌, ◌⊎◌, inl, inr, false, List, [], ◌∷◌, map, flat_map, refl, sym, ap, subst, ◌∙◌, arith}
use Rattle.std.specs.List.Sorted.{IsPermutation}
use Rattle.std.proofs.lemmas.List.Sorted.{IsPermutation-map, IsPermutation-sym, length_permutation, Contains-permutation}
use Rattle.sqlite.specs.declared.types.Value.TheVariants.{Null}
use Rattle.sqlite.specs.declared.error.Error.{Error}
use Rattle.sqlite.specs.declared.error.Error.TheVariants.{SqliteFailure}
use Rattle.sqlite.specs.declared.error.ErrorCode.TheVariants.{OutOfMemory}
use Rattle.sqlite.specs.Order.{Row}
use Rattle.sqlite.specs.Query.{Query, output, Output}
use Rattle.sqlite.specs.Tree.{Trees}
use Rattle.sqlite.specs.Term.{Env}
use Rattle.sqlite.specs.Listing.{understood, reads_listing}
use Rattle.sqlite.specs.State.{State, Shown, IsUnchanged, IsNotRun, FailsToQuery, Survives, CommitsShowing}
use Rattle.sqlite.proofs.StateLemmas.{survives_weaker}
use Rattle.sqlite.proofs.Callers.{IsPlain, reads_as, never_commits}
use Rattle.dcc_sqlite_store.specs.Tables.{layout}
use Rattle.dcc_sqlite_store.specs.Trees.{setting_tree, act_tree, entry_tree, account_tree, ten_columns, three_columns, seven_columns, setting_rows, act_rows, entry_rows, account_rows}
use Rattle.dcc_sqlite_store.specs.Queries.{Shows, settings_query, acts_query, entries_query, accounts_query}
use Rattle.dcc_sqlite_store.specs.inner.Reading.{LeftOrUndone, HasOtherLayout}
use Rattle.dcc_sqlite_store.proofs.Texts.{Reads}
use Rattle.dcc_sqlite_store.proofs.Lists.{to_has, from_has}

-- ---- a statement that shows rows and changes nothing

module _ (text : List _) (plain : IsPlain (understood layout text)) where
  pub plain_under : (old : State) → old.now.schema ≡ layout → IsPlain (understood old.now.schema text)
  plain_under old has = subst (λ s. IsPlain (understood s text)) (sym has) plain

  pub shown_same : (old new : State) (rows : List Row) → old.now.schema ≡ layout → Shown text [] old new rows → IsUnchanged old new
  unfolding Shown
  shown_same old new rows has h =
      let none = (subst IsPlain h.1.is (plain_under old has)).0 in
      (rw none at h.2).3

  pub failed_back : (old new : State) (e : Error) → old.now.schema ≡ layout → FailsToQuery text [] old new e ⊎ ((e ≡ SqliteFailure OutOfMemory) × IsUnchanged old new) → LeftOrUndone old new
  unfolding FailsToQuery IsNotRun
  failed_back old new e has (inl (inl (inl refused))) = inl refused.1
  failed_back old new e has (inl (inl (inr fails))) = inr fails.3.undone
  failed_back old new e has (inr short) = inl short.1
  failed_back old new e has (inl (inr shows)) =
      let none = (subst IsPlain shows.1.is (plain_under old has)).0 in
      inl ((rw none at shows.2).3)

  pub commits_nothing : (old new : State) → Survives old new (CommitsShowing text [] old) → Survives old new (HasOtherLayout old)
  commits_nothing old new = survives_weaker old new (CommitsShowing text [] old) (HasOtherLayout old) (λ _ db commits has. never_commits text [] old db (plain_under old has) commits)

pub shows_all : (text : List _) (query : Query) (names : List (List _)) → Reads text query names → IsPlain (understood layout text) → reads_listing layout text ≡ false
    → (old new : State) (rows : List Row) → old.now.schema ≡ layout → Shown text [] old new rows → Shows query old.now.trees rows
shows_all text query names is plain unlisted old new rows has h = (reads_as text [] old new layout has _ is plain unlisted rows h).answer Null

-- ---- the rows that it shows

-- the environments in which each row stands once
abbrev pub each_row : List Row → List Env
each_row = flat_map (λ r. ([] ∷ r ∷ []) ∷ [])

abbrev pub shown_of : List Output → List Row
shown_of = map (λ (o : Output). o.1)

settings_are : (rows : List Row) → shown_of (map (output settings_query) (each_row rows)) ≡ map ten_columns rows
settings_are [] = refl
settings_are (r ∷ rows) = ap (λ (more : List Row). ten_columns r ∷ more) (settings_are rows)

acts_are : (rows : List Row) → shown_of (map (output acts_query) (each_row rows)) ≡ map three_columns rows
acts_are [] = refl
acts_are (r ∷ rows) = ap (λ (more : List Row). three_columns r ∷ more) (acts_are rows)

entries_are : (rows : List Row) → shown_of (map (output entries_query) (each_row rows)) ≡ map seven_columns rows
entries_are [] = refl
entries_are (r ∷ rows) = ap (λ (more : List Row). seven_columns r ∷ more) (entries_are rows)

accounts_are : (rows : List Row) → shown_of (map (output accounts_query) (each_row rows)) ≡ map three_columns rows
accounts_are [] = refl
accounts_are (r ∷ rows) = ap (λ (more : List Row). three_columns r ∷ more) (accounts_are rows)

shows_settings : (db : Trees) (rows : List Row) → Shows settings_query db rows → IsPermutation (setting_rows db) rows
shows_settings db rows a =
    let kept : shown_of a.kept ≡ setting_rows db = ap shown_of (a.distinct ∙ ap (map (output settings_query)) a.grouped) ∙ settings_are (db setting_tree) in
    let ordered = IsPermutation-map (λ (o : Output). o.1) a.kept a.ordered a.same in
    let shown : rows ≡ shown_of a.ordered = a.shown in
    subst (IsPermutation (setting_rows db)) (sym shown) (subst (λ all. IsPermutation all (shown_of a.ordered)) kept ordered)

-- a row that is alone is so in any order
alone : (rows : List Row) (row : Row) → IsPermutation rows (row ∷ []) → rows ≡ row ∷ []
alone [] row same = absurd (let n = length_permutation [] (row ∷ []) same in omega (arith, n))
alone (x ∷ []) row same =
    elim (to_has (row ∷ []) x (Contains-permutation (x ∷ []) (row ∷ []) x same (from_has (x ∷ []) x (inl refl)))) [ inl e ↦ ap (λ (r : Row). r ∷ []) e | inr none ↦ absurd none ]
alone (x ∷ y ∷ more) row same = absurd (let n = length_permutation (x ∷ y ∷ more) (row ∷ []) same in omega (arith, n))

-- the rows of the setting that are shown are one row just where those of the table are
pub setting_shown : (db : Trees) (rows : List Row) (row : Row) → Shows settings_query db rows → rows ≡ row ∷ [] → setting_rows db ≡ row ∷ []
setting_shown db rows row shown is = alone (setting_rows db) row (subst (IsPermutation (setting_rows db)) is (shows_settings db rows shown))

pub setting_there : (db : Trees) (rows : List Row) (row : Row) → Shows settings_query db rows → setting_rows db ≡ row ∷ [] → rows ≡ row ∷ []
setting_there db rows row shown is = alone rows row (IsPermutation-sym (row ∷ []) rows (subst (λ all. IsPermutation all rows) is (shows_settings db rows shown)))

pub shows_acts : (db : Trees) (rows : List Row) → Shows acts_query db rows → IsPermutation (act_rows db) rows
shows_acts db rows a =
    let kept : shown_of a.kept ≡ act_rows db = ap shown_of (a.distinct ∙ ap (map (output acts_query)) a.grouped) ∙ acts_are (db act_tree) in
    let ordered = IsPermutation-map (λ (o : Output). o.1) a.kept a.ordered a.same in
    let shown : rows ≡ shown_of a.ordered = a.shown in
    subst (IsPermutation (act_rows db)) (sym shown) (subst (λ all. IsPermutation all (shown_of a.ordered)) kept ordered)

pub shows_entries : (db : Trees) (rows : List Row) → Shows entries_query db rows → IsPermutation (entry_rows db) rows
shows_entries db rows a =
    let kept : shown_of a.kept ≡ entry_rows db = ap shown_of (a.distinct ∙ ap (map (output entries_query)) a.grouped) ∙ entries_are (db entry_tree) in
    let ordered = IsPermutation-map (λ (o : Output). o.1) a.kept a.ordered a.same in
    let shown : rows ≡ shown_of a.ordered = a.shown in
    subst (IsPermutation (entry_rows db)) (sym shown) (subst (λ all. IsPermutation all (shown_of a.ordered)) kept ordered)

pub shows_accounts : (db : Trees) (rows : List Row) → Shows accounts_query db rows → IsPermutation (account_rows db) rows
shows_accounts db rows a =
    let kept : shown_of a.kept ≡ account_rows db = ap shown_of (a.distinct ∙ ap (map (output accounts_query)) a.grouped) ∙ accounts_are (db account_tree) in
    let ordered = IsPermutation-map (λ (o : Output). o.1) a.kept a.ordered a.same in
    let shown : rows ≡ shown_of a.ordered = a.shown in
    subst (IsPermutation (account_rows db)) (sym shown) (subst (λ all. IsPermutation all (shown_of a.ordered)) kept ordered)
