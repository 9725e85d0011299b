-- A book in the tables is shown in the order of its keys.
use Rattle.std.proofs.Common.{◌≡◌, ◌⊎◌, inl, inr, false, zero, suc, ◌+◌, ◌<◌, pos, List, [], ◌∷◌, map, length, get_or, All, refl, sym, ap, subst, ◌∙◌, arith}
use Rattle.std.proofs.Math.Path.{subst₂}
use Rattle.std.specs.Ordering.{is_lt, ordering_then}
use Rattle.std.specs.declared.cmp.Ordering.{Ordering}
use Rattle.std.specs.List.{AllByRecursion}
use Rattle.std.specs.List.Sorted.{IsSorted}
use Rattle.std.proofs.lemmas.List.{get_or-map, length-map}
use Rattle.std.proofs.lemmas.List.Sorted.{IsPermutation-sym, All-permutation}
use Rattle.sqlite.specs.Order.{Row, column, value_cmp}
use Rattle.sqlite.specs.Query.{output, output_cmp, Output}
use Rattle.sqlite.specs.Tree.{Trees}
use Rattle.sqlite.specs.State.{State, HasCleanDisk}
use Rattle.sqlite_value.proofs.OrderLemmas.{then-Equal}
use Rattle.dcc_tariff.specs.Terms.{TermsView}
use Rattle.dcc_act.specs.declared.sub.Sub.{Sub}
use Rattle.dcc_store.specs.Books.{Held}
use Rattle.dcc_store.specs.Contents.{Content, Kept}
use Rattle.dcc_store.specs.Stops.{LeavesEither}
use Rattle.dcc_sqlite_rows.specs.Held.{IsActRow, IsEntryRow, IsAccountRow}
use Rattle.dcc_sqlite_rows.specs.Ordered.{act_order, entry_order, account_order, AreHeld, BooksHavePages, BooksAreWhole}
use Rattle.dcc_sqlite_rows.specs.Stored.{Rows}
use Rattle.dcc_sqlite_rows.specs.OldRows.{IsOldActRow, AreOldHeld, OldBooksHavePages, OldBooksAreWhole}
use Rattle.dcc_sqlite_store.specs.Trees.{act_tree, entry_tree, account_tree, act_rows, entry_rows, account_rows}
use Rattle.dcc_sqlite_store.specs.Queries.{Shows, acts_query, entries_query, accounts_query}
use Rattle.dcc_sqlite_store.specs.Content.{HoldsBook, HoldsOldBook, leaves}
use Rattle.dcc_sqlite_store.specs.Opening.{ShowsRows, IsDamagedIn, DisagreeIn}
use Rattle.dcc_sqlite_store.specs.Upgrade.{IsOldDamagedIn, OldDisagreeIn}
use Rattle.dcc_sqlite_store.proofs.Answering.{each_row, shown_of, shows_acts, shows_entries, shows_accounts}
use Rattle.dcc_sqlite_store.proofs.Loads.{just_along}

all_at : {X : Type 0} (P : X → Type 0) (xs : List X) → AllByRecursion P xs → All P xs
all_at P [] h k d below = absurd (omega (arith, below))
all_at P (x ∷ xs) h zero d below = h.0
all_at P (x ∷ xs) h (suc k) d below = all_at P xs h.1 k d (omega (arith, below))

-- what is in the order of its keys shows rows in that order
shown_sorted : (order : Row → Row → Ordering) (cmp : Output → Output → Ordering) (K : Output → Type 0) (all : List Output) → All K all → ((x y : Output) → K x → K y → cmp x y ≡ order x.1 y.1)
    → IsSorted cmp all → IsSorted order (shown_of all)
shown_sorted order cmp K all keys same sorted k d low below =
    let none : Output = ([], d) in
    let show = λ (o : Output). o.1 in
    let n : length (shown_of all) ≡ length all = length-map all show in
    let inside : k + 1 < length all = omega (arith, below, n) in
    let before : k < length all = omega (arith, inside) in
    let x = get_or all (k + 1) none in
    let y = get_or all k none in
    subst₂ (λ (a b : Row). is_lt (order a b) ≡ false) (sym (get_or-map show all (k + 1) none d inside)) (sym (get_or-map show all k none d before))
    (ap is_lt (sym (same x y (keys (k + 1) none inside) (keys k none before))) ∙ sorted k none low inside)

-- the order of a statement by its first columns, of what it shows
abbrev HasOne : Output → Type 0
HasOne o = column o.0 0 ≡ column o.1 0

abbrev HasTwo : Output → Type 0
HasTwo o = (column o.0 0 ≡ column o.1 0) × (column o.0 1 ≡ column o.1 1)

abbrev HasThree : Output → Type 0
HasThree o = (column o.0 0 ≡ column o.1 0) × (column o.0 1 ≡ column o.1 1) × (column o.0 2 ≡ column o.1 2)

account_keys : (rows : List Row) → AllByRecursion HasOne (map (output accounts_query) (each_row rows))
account_keys [] = tt
account_keys (r ∷ rows) = (refl, account_keys rows)

act_keys : (rows : List Row) → AllByRecursion HasTwo (map (output acts_query) (each_row rows))
act_keys [] = tt
act_keys (r ∷ rows) = ((refl, refl), act_keys rows)

entry_keys : (rows : List Row) → AllByRecursion HasThree (map (output entries_query) (each_row rows))
entry_keys [] = tt
entry_keys (r ∷ rows) = ((refl, refl, refl), entry_keys rows)

by_account : (x y : Output) → HasOne x → HasOne y → output_cmp accounts_query x y ≡ account_order x.1 y.1
by_account x y a b = then-Equal (value_cmp (column x.0 0) (column y.0 0)) ∙ (λ i. value_cmp (a i) (b i))

by_act : (x y : Output) → HasTwo x → HasTwo y → output_cmp acts_query x y ≡ act_order x.1 y.1
by_act x y a b =
    ap (ordering_then (value_cmp (column x.0 0) (column y.0 0))) (then-Equal (value_cmp (column x.0 1) (column y.0 1)))
    ∙ (λ i. ordering_then (value_cmp (a.0 i) (b.0 i)) (value_cmp (a.1 i) (b.1 i)))

by_entry : (x y : Output) → HasThree x → HasThree y → output_cmp entries_query x y ≡ entry_order x.1 y.1
by_entry x y a b =
    ap (λ (o : Ordering). ordering_then (value_cmp (column x.0 0) (column y.0 0)) (ordering_then (value_cmp (column x.0 1) (column y.0 1)) o)) (then-Equal (value_cmp (column x.0 2) (column y.0 2)))
    ∙ (λ i. ordering_then (value_cmp (a.0 i) (b.0 i)) (ordering_then (value_cmp (a.1 i) (b.1 i)) (value_cmp (a.2 i) (b.2 i))))

acts_sorted : (db : Trees) (rows : List Row) → Shows acts_query db rows → IsSorted act_order rows
acts_sorted db rows a =
    let kept : a.kept ≡ map (output acts_query) (each_row (db act_tree)) = a.distinct ∙ ap (map (output acts_query)) a.grouped in
    let keys = All-permutation HasTwo a.kept a.ordered a.same (subst (All HasTwo) (sym kept) (all_at HasTwo (map (output acts_query) (each_row (db act_tree))) (act_keys (db act_tree)))) in
    let shown : rows ≡ shown_of a.ordered = a.shown in
    subst (IsSorted act_order) (sym shown) (shown_sorted act_order (output_cmp acts_query) HasTwo a.ordered keys by_act a.sorted)

entries_sorted : (db : Trees) (rows : List Row) → Shows entries_query db rows → IsSorted entry_order rows
entries_sorted db rows a =
    let kept : a.kept ≡ map (output entries_query) (each_row (db entry_tree)) = a.distinct ∙ ap (map (output entries_query)) a.grouped in
    let keys = All-permutation HasThree a.kept a.ordered a.same (subst (All HasThree) (sym kept) (all_at HasThree (map (output entries_query) (each_row (db entry_tree))) (entry_keys (db entry_tree)))) in
    let shown : rows ≡ shown_of a.ordered = a.shown in
    subst (IsSorted entry_order) (sym shown) (shown_sorted entry_order (output_cmp entries_query) HasThree a.ordered keys by_entry a.sorted)

accounts_sorted : (db : Trees) (rows : List Row) → Shows accounts_query db rows → IsSorted account_order rows
accounts_sorted db rows a =
    let kept : a.kept ≡ map (output accounts_query) (each_row (db account_tree)) = a.distinct ∙ ap (map (output accounts_query)) a.grouped in
    let keys = All-permutation HasOne a.kept a.ordered a.same (subst (All HasOne) (sym kept) (all_at HasOne (map (output accounts_query) (each_row (db account_tree))) (account_keys (db account_tree)))) in
    let shown : rows ≡ shown_of a.ordered = a.shown in
    subst (IsSorted account_order) (sym shown) (shown_sorted account_order (output_cmp accounts_query) HasOne a.ordered keys by_account a.sorted)

shown_held : (terms : TermsView) (db : Trees) (held : Held) (rows : Rows) → HoldsBook terms db held → ShowsRows db rows → AreHeld terms held rows
shown_held terms db held rows book shown = record {
  own = book.own;
  subs = book.subs;
  fits = book.fits;
  acts = just_along (act_rows db) rows.acts (IsActRow held) (IsPermutation-sym (act_rows db) rows.acts (shows_acts db rows.acts shown.acts)) book.acts;
  entries = just_along (entry_rows db) rows.entries (IsEntryRow terms held) (IsPermutation-sym (entry_rows db) rows.entries (shows_entries db rows.entries shown.entries)) book.entries;
  accounts = just_along (account_rows db) rows.accounts (IsAccountRow terms held) (IsPermutation-sym (account_rows db) rows.accounts (shows_accounts db rows.accounts shown.accounts)) book.accounts;
  acts_sorted = acts_sorted db rows.acts shown.acts;
  entries_sorted = entries_sorted db rows.entries shown.entries;
  accounts_sorted = accounts_sorted db rows.accounts shown.accounts;
}

-- tables that hold a book are neither damaged nor disagree
pub no_book : BooksHavePages → BooksAreWhole → (terms : TermsView) (db : Trees) → IsDamagedIn db ⊎ DisagreeIn terms db → (held : Held) → ¬ HoldsBook terms db held
no_book pages whole terms db (inl bad) held book = whole terms held bad.0 (shown_held terms db held bad.0 book bad.1) bad.2
no_book pages whole terms db (inr none) held book =
    let it = pages terms held none.0 (shown_held terms db held none.0 book none.1) in
    none.3 it.0 it.1

-- the same of tables of layout 1
shown_old_held : (terms : TermsView) (db : Trees) (held : Held) (rows : Rows) → HoldsOldBook terms db held → ShowsRows db rows → AreOldHeld terms held rows
shown_old_held terms db held rows book shown = record {
  own = book.own;
  subs = book.subs;
  fits = book.fits;
  acts = just_along (act_rows db) rows.acts (IsOldActRow held) (IsPermutation-sym (act_rows db) rows.acts (shows_acts db rows.acts shown.acts)) book.acts;
  entries = just_along (entry_rows db) rows.entries (IsEntryRow terms held) (IsPermutation-sym (entry_rows db) rows.entries (shows_entries db rows.entries shown.entries)) book.entries;
  accounts = just_along (account_rows db) rows.accounts (IsAccountRow terms held) (IsPermutation-sym (account_rows db) rows.accounts (shows_accounts db rows.accounts shown.accounts)) book.accounts;
  acts_sorted = acts_sorted db rows.acts shown.acts;
  entries_sorted = entries_sorted db rows.entries shown.entries;
  accounts_sorted = accounts_sorted db rows.accounts shown.accounts;
}

pub no_old_book : OldBooksHavePages → OldBooksAreWhole → (terms : TermsView) (db : Trees) → IsOldDamagedIn db ⊎ OldDisagreeIn terms db → (held : Held) → ¬ HoldsOldBook terms db held
no_old_book pages whole terms db (inl bad) held book = whole terms held bad.0 (shown_old_held terms db held bad.0 book bad.1) bad.2
no_old_book pages whole terms db (inr none) held book =
    let it = pages terms held none.0 (shown_old_held terms db held none.0 book none.1) in
    none.3 it.0 it.1

-- where a stop leaves the content of one of two books, and nothing else, tables that it leaves hold a book
pub holds_some : (terms : TermsView) (s : State) (one other : Held) (db : Trees) → HasCleanDisk s → s.may_leave db → LeavesEither terms one other (leaves terms s) → ((held : Held) → ¬ HoldsBook terms db held) → ⊥
holds_some terms s one other db clean may either none =
    let any : Sub = record { kind = 0; name = [] } in
    let odd : Content = λ sub. record { acts = []; entries = []; account = record { acts = length (one any) + length (other any) + 1; funds = pos 0 } } in
    elim (either odd (clean, (db, may, λ held book. absurd (none held book)))) [
      | inl a ↦ let e : length (one any) + length (other any) + 1 ≡ length (one any) = ap (λ (kept : Kept). kept.account.acts) (a any) in omega (arith, e)
      | inr b ↦ let e : length (one any) + length (other any) + 1 ≡ length (other any) = ap (λ (kept : Kept). kept.account.acts) (b any) in omega (arith, e)
    ]
