-- The tables while they are filled anew.
use Rattle.std.specs.Prelude.{◌≡◌, ℕ, ◌+◌, List, [], ◌∷◌, ◌++◌, length}
use Rattle.std.specs.List.Sorted.{IsPermutation}
use Rattle.sqlite.specs.Order.{Row}
use Rattle.sqlite.specs.Tree.{Trees}
use Rattle.sqlite.specs.State.{State}
use Rattle.dcc_tariff.specs.Terms.{TermsView}
use Rattle.dcc_act.specs.declared.act.Act.{Act}
use Rattle.dcc_act.specs.declared.entry.Entry.{Entry}
use Rattle.dcc_model.specs.Entries.{entries}
use Rattle.dcc_act_codec.specs.Records.{record_of}
use Rattle.dcc_store.specs.Books.{PageView}
use Rattle.dcc_sqlite_rows.specs.Rows.{act_row, entry_rows_of}
use Rattle.dcc_sqlite_rows.specs.Pages.{book_act_rows, book_entry_rows, book_account_rows}
use Rattle.dcc_sqlite_store.specs.declared.setting.Setting.{Setting}
use Rattle.dcc_sqlite_store.specs.Trees.{IsStore, setting_tree, act_rows, entry_rows, account_rows, setting_rows}
use Rattle.dcc_sqlite_store.specs.Setting.{setting_row}
use Rattle.dcc_sqlite_store.specs.inner.Trees.{HasRun}

-- Rows of acts, of entries and of accounts are added, and the row of the setting stays.
pub record Gathers (acts entries accounts : List Row) (old new : Trees) : Type 0 where
  pub setting : new setting_tree ≡ old setting_tree
  pub acts_are : IsPermutation (act_rows old ++ acts) (act_rows new)
  pub entries_are : IsPermutation (entry_rows old ++ entries) (entry_rows new)
  pub accounts_are : IsPermutation (account_rows old ++ accounts) (account_rows new)

-- The same; and if the tables were those of a store, they are so again.
pub record Refills (acts entries accounts : List Row) (old new : Trees) : Type 0 where
  pub gathers : Gathers acts entries accounts old new
  pub store : IsStore old → IsStore new

-- The row of an act behind these acts is added, with the rows of the entries that the act adds.
pub record AddsNext (terms : TermsView) (sub : List ℕ) (before : List Act) (act : Act) (old new : State) : Type 0 where
  pub more : List Entry
  pub adds : entries terms (before ++ act ∷ []) ≡ entries terms before ++ more
  pub ran : HasRun (Gathers (act_row sub (length before + 1) (record_of act) ∷ []) (entry_rows_of sub (length before + 1) 0 more) []) old new

-- The tables have the rows of these pages, and the row of this setting.
pub record HoldsPages (setting : Setting) (pages : List PageView) (db : Trees) : Type 0 where
  pub acts_are : IsPermutation (book_act_rows pages) (act_rows db)
  pub entries_are : IsPermutation (book_entry_rows setting.terms pages) (entry_rows db)
  pub accounts_are : IsPermutation (book_account_rows setting.terms pages) (account_rows db)
  pub is_of : setting_rows db ≡ setting_row setting ∷ []
  pub store : IsStore db
