-- From the rows of layout 1 that were read to the book that is kept in layout 2.
use Rattle.std.proofs.Common.{◌≡◌, ℕ, Option, Some, None, IfSome, List, [], ◌++◌, map, sym, ap, subst, ◌∙◌}
use Rattle.std.specs.List.{AllByRecursion}
use Rattle.std.specs.List.Sorted.{IsPermutation}
use Rattle.std.proofs.lemmas.List.Sorted.{IsPermutation-sym, length_permutation}
use Rattle.sqlite.specs.Order.{Row}
use Rattle.sqlite.specs.Tree.{Trees}
use Rattle.sqlite.specs.State.{State, HasCleanDisk, IsUnchanged, Survives}
use Rattle.sqlite.proofs.StateLemmas.{survives_then, survives_weaker}
use Rattle.dcc_tariff.specs.Terms.{TermsView}
use Rattle.dcc_store.specs.Books.{PageView, acts_in}
use Rattle.dcc_sqlite_rows.specs.Pages.{IsPage, book_act_rows, book_entry_rows, book_account_rows}
use Rattle.dcc_sqlite_rows.specs.Stored.{Rows}
use Rattle.dcc_sqlite_rows.specs.Held.{AreJust, IsActRow, IsEntryRow, IsAccountRow, PagesHoldTheirActs, PagesHoldTheirEntries, PagesHoldTheirAccounts, PagesMakeABook, PagesFit, PagesAreOfSubs}
use Rattle.dcc_sqlite_rows.specs.OldRows.{IsOldPage, IsOldActRow, AreOfOldBook, OldPagesHoldTheirActs, OldPagesFit}
use Rattle.dcc_sqlite_store.specs.Tables.{layout}
use Rattle.dcc_sqlite_store.specs.Trees.{act_rows, entry_rows, account_rows, ten_columns, three_columns, seven_columns}
use Rattle.dcc_sqlite_store.specs.Content.{HoldsBook, HoldsOldBook}
use Rattle.dcc_sqlite_store.specs.Opening.{ShowsRows}
use Rattle.dcc_sqlite_store.specs.Upgrade.{HasOldSetting, IsUpgraded}
use Rattle.dcc_sqlite_store.specs.declared.setting.Setting.{Setting}
use Rattle.dcc_sqlite_store.specs.inner.Making.{HasMade, IsFirst}
use Rattle.dcc_sqlite_store.specs.inner.Dropping.{HasLeft}
use Rattle.dcc_sqlite_store.specs.inner.Trees.{HasCommitted}
use Rattle.dcc_sqlite_store.specs.inner.Refilling.{Refills, HoldsPages}
use Rattle.dcc_sqlite_store.specs.inner.Upgrading.{ShowsOldPages, HasUpgraded, CanUpgrade}
use Rattle.dcc_sqlite_store.specs.inner.Reading.{HasOtherLayout}
use Rattle.dcc_sqlite_store.proofs.Answering.{shows_acts, shows_entries, shows_accounts}
use Rattle.dcc_sqlite_store.proofs.Loads.{just_along}
use Rattle.dcc_sqlite_store.proofs.Opened.{was_clean, layout_then}
use Rattle.dcc_sqlite_store.proofs.Gathering.{HasFilled}

-- ---- the tables made anew

from_nothing : (none all rows : List Row) → none ≡ [] → IsPermutation (none ++ rows) all → IsPermutation rows all
from_nothing none all rows is = subst (λ (some : List Row). IsPermutation (some ++ rows) all) is

filled_first : (setting : Setting) (pages : List PageView) (old new : Trees) → IsFirst setting old → Refills (book_act_rows pages) (book_entry_rows setting.terms pages) (book_account_rows setting.terms pages) old new → HoldsPages setting pages new
filled_first setting pages old new first it = record {
  acts_are = from_nothing (act_rows old) (act_rows new) (book_act_rows pages) (ap (map three_columns) first.0.0) it.gathers.acts_are;
  entries_are = from_nothing (entry_rows old) (entry_rows new) (book_entry_rows setting.terms pages) (ap (map seven_columns) first.0.1) it.gathers.entries_are;
  accounts_are = from_nothing (account_rows old) (account_rows new) (book_account_rows setting.terms pages) (ap (map three_columns) first.0.2) it.gathers.accounts_are;
  is_of = ap (map ten_columns) it.gathers.setting ∙ first.1;
  store = it.store first.2;
}

pub made_anew : (setting : Setting) (pages : List PageView) (a b c d : State) (empty : _) → HasLeft empty a b → HasMade layout (IsFirst setting) b c → HasFilled setting.terms pages c d → HasMade layout (HoldsPages setting pages) a d
made_anew setting pages a b c d empty left made filled = record {
  inside = filled.inside;
  committed = filled.committed ∙ made.committed ∙ left.committed;
  schema = filled.schema;
  says = filled_first setting pages c.now.trees d.now.trees made.says filled.changes;
}

-- ---- the book of the tables, before and after

module _ (acts : PagesHoldTheirActs) (entries : PagesHoldTheirEntries) (accounts : PagesHoldTheirAccounts) (book : PagesMakeABook) (fit : PagesFit) (of : PagesAreOfSubs)
    (old_acts : OldPagesHoldTheirActs) (old_fit : OldPagesFit) (are_pages : (pages : List PageView) → AllByRecursion IsOldPage pages → AllByRecursion IsPage pages) where
  holds_filled : (setting : Setting) (db : Trees) (rows : Rows) (pages : List PageView) → AreOfOldBook setting.terms pages rows → HoldsPages setting pages db → HoldsBook setting.terms db (acts_in pages)
  holds_filled setting db rows pages are it =
      let valid = are_pages pages are.valid in
      record {
        own = book setting.terms pages are.own;
        subs = of pages valid;
        fits = fit pages valid;
        acts = just_along (book_act_rows pages) (act_rows db) (IsActRow (acts_in pages)) (IsPermutation-sym (book_act_rows pages) (act_rows db) it.acts_are) (acts pages are.ordered valid);
        entries =
            just_along (book_entry_rows setting.terms pages) (entry_rows db) (IsEntryRow setting.terms (acts_in pages)) (IsPermutation-sym (book_entry_rows setting.terms pages) (entry_rows db) it.entries_are)
            (entries setting.terms pages are.ordered valid);
        accounts =
            just_along (book_account_rows setting.terms pages) (account_rows db) (IsAccountRow setting.terms (acts_in pages)) (IsPermutation-sym (book_account_rows setting.terms pages) (account_rows db) it.accounts_are)
            (accounts setting.terms pages are.ordered valid);
      }

  held_before : (terms : TermsView) (db : Trees) (rows : Rows) (pages : List PageView) → ShowsRows db rows → AreOfOldBook terms pages rows → HoldsOldBook terms db (acts_in pages)
  held_before terms db rows pages shown are =
      let valid = are_pages pages are.valid in
      record {
        own = book terms pages are.own;
        subs = of pages valid;
        fits = old_fit pages are.valid;
        acts = just_along rows.acts (act_rows db) (IsOldActRow (acts_in pages)) (shows_acts db rows.acts shown.acts) (subst (λ (all : List Row). AreJust all (IsOldActRow (acts_in pages))) (sym are.acts) (old_acts pages are.ordered are.valid));
        entries =
            just_along rows.entries (entry_rows db) (IsEntryRow terms (acts_in pages)) (shows_entries db rows.entries shown.entries)
            (subst (λ (all : List Row). AreJust all (IsEntryRow terms (acts_in pages))) (sym are.entries) (entries terms pages are.ordered valid));
        accounts =
            just_along rows.accounts (account_rows db) (IsAccountRow terms (acts_in pages)) (shows_accounts db rows.accounts shown.accounts)
            (subst (λ (all : List Row). AreJust all (IsAccountRow terms (acts_in pages))) (sym are.accounts) (accounts terms pages are.ordered valid));
      }

  pub is_upgraded : (setting : Setting) (old new : Trees) (pages : List PageView) (count : ℕ) → HasOldSetting setting old → ShowsOldPages setting.terms old pages count → HoldsPages setting pages new → IsUpgraded setting old new
  is_upgraded setting old new pages count was_of shown it = record {
    held = acts_in pages;
    was = held_before setting.terms old shown.0 pages shown.1 shown.2;
    is = holds_filled setting new shown.0 pages shown.2 it;
    was_of = was_of;
    is_of = it.is_of;
    store = it.store;
  }

  pub has_upgraded : (setting : Setting) (old mid new : State) (pages : List PageView) (count : ℕ) → HasOldSetting setting old.now.trees → ShowsOldPages setting.terms old.now.trees pages count
      → HasCommitted (λ _. HoldsPages setting pages) mid new → HasUpgraded setting old new count
  has_upgraded setting old mid new pages count was_of shown it = record {
    is_open = it.is_open;
    settled = it.settled;
    schema = it.schema;
    upgraded = is_upgraded setting old.now.trees new.now.trees pages count was_of shown it.changes;
    counted = shown.3 ∙ length_permutation (act_rows old.now.trees) shown.0.acts (shows_acts old.now.trees shown.0.acts shown.1.acts);
  }

  -- a stop leaves the old store or the upgraded one
  pub upgrade_survives : (setting : Setting) (old mid new : State) (pages : List PageView) (count : ℕ) → (HasCleanDisk mid → old.now.schema ≡ layout → IsUnchanged old mid) → (HasCleanDisk mid → old.now.schema ≡ layout → ShowsOldPages setting.terms old.now.trees pages count)
      → Survives old mid (HasOtherLayout old) → Survives mid new (λ db. mid.now.schema ≡ layout → HoldsPages setting pages db) → Survives old new (CanUpgrade setting old)
  upgrade_survives setting old mid new pages count same shown one two =
      survives_then old mid new (HasOtherLayout old) (λ db. mid.now.schema ≡ layout → HoldsPages setting pages db) (CanUpgrade setting old) (λ _ db other has was. absurd (other has))
      (λ now db holds has was. ∣ is_upgraded setting old.now.trees db pages count was (shown (was_clean old mid new two.clean same now) has) (holds (layout_then old mid new two.clean same now has)) ∣₁) one two

-- a read that fails commits nothing over a store
pub read_survives : (setting : Setting) (old new : State) → Survives old new (HasOtherLayout old) → Survives old new (CanUpgrade setting old)
read_survives setting old new = survives_weaker old new (HasOtherLayout old) (CanUpgrade setting old) (λ _ db other has was. absurd (other has))

-- what holds of a number, if there is one
pub if_some_truncated : (C : Type 0) (P Q : ℕ → Type 0) (o : Option ℕ) → ((n : ℕ) → P n → Q n) → IfSome o (λ n. C → P n) → IfSome o (λ n. C → ∥ Q n ∥₁)
if_some_truncated C P Q None f h = tt
if_some_truncated C P Q (Some n) f h = λ c. ∣ f n (h c) ∣₁
