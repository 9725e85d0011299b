-- Rows that are added to the tables, one table after another.
use Rattle.std.proofs.Common.{◌≡◌, ◌+◌, ◌<◌, IsTrue, List, [], ◌∷◌, ◌++◌, ℕ, zero, suc, map, length, take, drop, get_or, refl, sym, ap, ap₂, subst, ◌∙◌, arith, append-nil, append_assoc}
use native.Mathlib.Numerals.{add-one}
use Rattle.std.specs.List.Sorted.{IsPermutation}
use Rattle.std.proofs.lemmas.Grind.{take_at_read}
use Rattle.std.proofs.lemmas.List.Sorted.{IsPermutation-refl, IsPermutation-trans, IsPermutation-append_left}
use Rattle.sqlite.specs.Order.{Row}
use Rattle.sqlite.specs.Tree.{Trees}
use Rattle.sqlite.specs.State.{State}
use Rattle.dcc_tariff.specs.Terms.{TermsView}
use Rattle.dcc_act.specs.declared.act.Act.{Act}
use Rattle.dcc_act.specs.declared.entry.Entry.{Entry}
use Rattle.dcc_model.specs.Entries.{entries}
use Rattle.dcc_act_codec.specs.Records.{record_of}
use Rattle.dcc_store.specs.Books.{PageView}
use Rattle.dcc_sqlite_rows.specs.Rows.{act_row, entry_rows_of}
use Rattle.dcc_sqlite_rows.specs.Pages.{entries_at, act_rows_from, entry_rows_to, page_act_rows, page_entry_rows, page_account_row, book_act_rows, book_entry_rows, book_account_rows}
use Rattle.dcc_sqlite_store.specs.Tables.{layout}
use Rattle.dcc_sqlite_store.specs.inner.Trees.{three_columns, seven_columns, act_rows, entry_rows, account_rows, AddsActs, AddsEntries, AddsAccount, HasRun}
use Rattle.dcc_sqlite_store.specs.inner.Refilling.{Gathers, Refills, AddsNext}

-- ---- one statement

same_rows : (xs ys : List Row) → ys ≡ xs → IsPermutation (xs ++ []) ys
same_rows xs ys same = rw (append-nil, same) (IsPermutation-refl xs)

pub gathers_nothing : (db : Trees) → Gathers [] [] [] db db
gathers_nothing db =
    record { setting = refl; acts_are = same_rows (act_rows db) (act_rows db) refl; entries_are = same_rows (entry_rows db) (entry_rows db) refl; accounts_are = same_rows (account_rows db) (account_rows db) refl }

from_acts : (rows : List Row) (old new : Trees) → AddsActs rows old new → Gathers rows [] [] old new
from_acts rows old new it =
    record { setting = it.setting; acts_are = it.acts; entries_are = same_rows (entry_rows old) (entry_rows new) (ap (map seven_columns) it.entries); accounts_are = same_rows (account_rows old) (account_rows new) (ap (map three_columns) it.accounts) }

from_entries : (rows : List Row) (old new : Trees) → AddsEntries rows old new → Gathers [] rows [] old new
from_entries rows old new it =
    record { setting = it.setting; acts_are = same_rows (act_rows old) (act_rows new) (ap (map three_columns) it.acts); entries_are = it.entries; accounts_are = same_rows (account_rows old) (account_rows new) (ap (map three_columns) it.accounts) }

from_account : (row : Row) (old new : Trees) → AddsAccount row old new → Refills [] [] (row ∷ []) old new
from_account row old new it = record {
  gathers = record { setting = it.setting; acts_are = same_rows (act_rows old) (act_rows new) (ap (map three_columns) it.acts); entries_are = same_rows (entry_rows old) (entry_rows new) (ap (map seven_columns) it.entries); accounts_are = it.accounts };
  store = λ _. it.store;
}

-- ---- one after another

rows_then : (a b c some more : List Row) → IsPermutation (a ++ some) b → IsPermutation (b ++ more) c → IsPermutation (a ++ (some ++ more)) c
rows_then a b c some more h k =
    subst (λ all. IsPermutation all c) (append_assoc a some more) (IsPermutation-trans ((a ++ some) ++ more) (b ++ more) c (IsPermutation-append_left more (a ++ some) b h) k)

module _ (x y z : Trees) (acts entries accounts acts' entries' accounts' : List Row) where
  gathers_then : Gathers acts entries accounts x y → Gathers acts' entries' accounts' y z → Gathers (acts ++ acts') (entries ++ entries') (accounts ++ accounts') x z
  gathers_then h k = record {
    setting = k.setting ∙ h.setting;
    acts_are = rows_then (act_rows x) (act_rows y) (act_rows z) acts acts' h.acts_are k.acts_are;
    entries_are = rows_then (entry_rows x) (entry_rows y) (entry_rows z) entries entries' h.entries_are k.entries_are;
    accounts_are = rows_then (account_rows x) (account_rows y) (account_rows z) accounts accounts' h.accounts_are k.accounts_are;
  }

  refills_then : Refills acts entries accounts x y → Refills acts' entries' accounts' y z → Refills (acts ++ acts') (entries ++ entries') (accounts ++ accounts') x z
  refills_then h k = record { gathers = gathers_then h.gathers k.gathers; store = λ it. k.store (h.store it) }

-- the row of an act, and those of its entries
pub act_put : (old mid new : State) (row : Row) (rows : List Row) → HasRun (AddsActs (row ∷ [])) old mid → HasRun (AddsEntries rows) mid new → HasRun (Gathers (row ∷ []) rows []) old new
act_put old mid new row rows one two = record {
  inside = two.inside;
  committed = two.committed ∙ one.committed;
  schema = two.schema;
  changes = gathers_then old.now.trees mid.now.trees new.now.trees (row ∷ []) [] [] [] rows [] (from_acts (row ∷ []) old.now.trees mid.now.trees one.changes) (from_entries rows mid.now.trees new.now.trees two.changes);
}

-- ---- the acts of a page

act_rows_more : (sub : List ℕ) (before : ℕ) (some : List Act) (act : Act) → act_rows_from sub before (some ++ act ∷ []) ≡ act_rows_from sub before some ++ act_row sub (before + length some + 1) (record_of act) ∷ []
act_rows_more sub before [] act = ap (λ (n : ℕ). act_row sub n (record_of act) ∷ []) (omega arith)
act_rows_more sub before (x ∷ some) act =
    ap (λ (rows : List Row). act_row sub (before + 1) (record_of x) ∷ rows)
    (act_rows_more sub (before + 1) some act ∙ ap (λ (n : ℕ). act_rows_from sub (before + 1) some ++ act_row sub n (record_of act) ∷ []) (omega arith))

drop_front : {X : Type 0} (xs ys : List X) → drop (length xs) (xs ++ ys) ≡ ys
drop_front [] ys = refl
drop_front (x ∷ xs) ys = drop_front xs ys

length_taken : {X : Type 0} (i : ℕ) (xs : List X) → i < length xs → length (take i xs) ≡ i
length_taken zero xs below = refl
length_taken (suc i) [] below = absurd (omega (arith, below))
length_taken (suc i) (x ∷ xs) below = ap suc (length_taken i xs (omega (arith, below)))

module _ (terms : TermsView) (sub : List ℕ) (all : List Act) (i : ℕ) (act : Act) (below : i < length all) (is : act ≡ get_or all i act) where
  pub one_taken : take (i + 1) all ≡ take i all ++ act ∷ []
  one_taken = (take_at_read all i act below).1 ∙ ap (λ (a : Act). take i all ++ a ∷ []) (sym is)

  place_is : length (take i all) ≡ i
  place_is = length_taken i all below

  acts_next : act_rows_from sub 0 (take (i + 1) all) ≡ act_rows_from sub 0 (take i all) ++ act_row sub (length (take i all) + 1) (record_of act) ∷ []
  acts_next =
      ap (act_rows_from sub 0) one_taken ∙ act_rows_more sub 0 (take i all) act
      ∙ ap (λ (n : ℕ). act_rows_from sub 0 (take i all) ++ act_row sub n (record_of act) ∷ []) (omega arith)

  entries_next : (more : List Entry) → entries terms (take i all ++ act ∷ []) ≡ entries terms (take i all) ++ more
      → entry_rows_to terms sub all (i + 1) ≡ entry_rows_to terms sub all i ++ entry_rows_of sub (length (take i all) + 1) 0 more
  entries_next more adds =
      let are : entries_at terms all i ≡ more =
      ap (λ (l : List Entry). drop (length (entries terms (take i all))) l) (ap (entries terms) one_taken ∙ adds) ∙ drop_front (entries terms (take i all)) more in
      ap (entry_rows_to terms sub all) (add-one i)
      ∙ ap₂ (λ (n : ℕ) (l : List Entry). entry_rows_to terms sub all i ++ entry_rows_of sub (n + 1) 0 l) (sym place_is) are

  pub one_act_more : (old mid new : State) → HasRun (Gathers (act_rows_from sub 0 (take i all)) (entry_rows_to terms sub all i) []) old mid → AddsNext terms sub (take i all) act mid new
      → HasRun (Gathers (act_rows_from sub 0 (take (i + 1) all)) (entry_rows_to terms sub all (i + 1)) []) old new
  one_act_more old mid new h k = record {
    inside = k.ran.inside;
    committed = k.ran.committed ∙ h.committed;
    schema = k.ran.schema;
    changes = rw (acts_next, entries_next k.more k.adds) (gathers_then old.now.trees mid.now.trees new.now.trees _ _ _ _ _ _ h.changes k.ran.changes);
  }

pub no_acts_run : (s : State) → IsTrue s.in_transaction → s.now.schema ≡ layout → HasRun (Gathers [] [] []) s s
no_acts_run s inside has = record { inside = inside; committed = refl; schema = has; changes = gathers_nothing s.now.trees }

-- the account's row behind them
pub account_put : (old mid new : State) (acts entries : List Row) (row : Row) → HasRun (Gathers acts entries []) old mid → HasRun (AddsAccount row) mid new → HasRun (Refills acts entries (row ∷ [])) old new
account_put old mid new acts entries row h k =
    let it = from_account row mid.now.trees new.now.trees k.changes in
    let all = gathers_then old.now.trees mid.now.trees new.now.trees acts entries [] [] [] (row ∷ []) h.changes it.gathers in
    record {
      inside = k.inside;
      committed = k.committed ∙ h.committed;
      schema = k.schema;
      changes = record { gathers = subst (λ (es : List Row). Gathers acts es (row ∷ []) old.now.trees new.now.trees) (append-nil entries) (subst (λ (as' : List Row). Gathers as' (entries ++ []) (row ∷ []) old.now.trees new.now.trees) (append-nil acts) all); store = λ _. k.changes.store };
    }

-- ---- the pages of a book

acts_behind : (pages : List PageView) (page : PageView) → book_act_rows (pages ++ page ∷ []) ≡ book_act_rows pages ++ page_act_rows page
acts_behind [] page = append-nil (page_act_rows page)
acts_behind (p ∷ pages) page = ap (λ (l : List Row). page_act_rows p ++ l) (acts_behind pages page) ∙ sym (append_assoc (page_act_rows p) (book_act_rows pages) (page_act_rows page))

entries_behind : (terms : TermsView) (pages : List PageView) (page : PageView) → book_entry_rows terms (pages ++ page ∷ []) ≡ book_entry_rows terms pages ++ page_entry_rows terms page
entries_behind terms [] page = append-nil (page_entry_rows terms page)
entries_behind terms (p ∷ pages) page =
    ap (λ (l : List Row). page_entry_rows terms p ++ l) (entries_behind terms pages page) ∙ sym (append_assoc (page_entry_rows terms p) (book_entry_rows terms pages) (page_entry_rows terms page))

accounts_behind : (terms : TermsView) (pages : List PageView) (page : PageView) → book_account_rows terms (pages ++ page ∷ []) ≡ book_account_rows terms pages ++ page_account_row terms page ∷ []
accounts_behind terms [] page = refl
accounts_behind terms (p ∷ pages) page = ap (λ (l : List Row). page_account_row terms p ∷ l) (accounts_behind terms pages page)

abbrev pub HasFilled : TermsView → List PageView → State → State → Type 0
HasFilled terms pages = HasRun (Refills (book_act_rows pages) (book_entry_rows terms pages) (book_account_rows terms pages))

pub no_pages_run : (terms : TermsView) (s : State) → IsTrue s.in_transaction → s.now.schema ≡ layout → HasFilled terms [] s s
no_pages_run terms s inside has = record { inside = inside; committed = refl; schema = has; changes = record { gathers = gathers_nothing s.now.trees; store = λ it. it } }

pub one_page_more : (terms : TermsView) (pages : List PageView) (i : ℕ) (page : PageView) (old mid new : State) → i < length pages → page ≡ get_or pages i page → HasFilled terms (take i pages) old mid
    → HasRun (Refills (page_act_rows page) (page_entry_rows terms page) (page_account_row terms page ∷ [])) mid new → HasFilled terms (take (i + 1) pages) old new
one_page_more terms pages i page old mid new below is h k =
    let next : take (i + 1) pages ≡ take i pages ++ page ∷ [] = (take_at_read pages i page below).1 ∙ ap (λ (p : PageView). take i pages ++ p ∷ []) (sym is) in
    record {
      inside = k.inside;
      committed = k.committed ∙ h.committed;
      schema = k.schema;
      changes = rw (next, acts_behind (take i pages) page, entries_behind terms (take i pages) page, accounts_behind terms (take i pages) page) (refills_then old.now.trees mid.now.trees new.now.trees _ _ _ _ _ _ h.changes k.changes);
    }
