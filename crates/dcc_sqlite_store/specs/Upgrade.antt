-- An upgrade: a store of layout 1 becomes a store of layout 2.
use Rattle.std.specs.Prelude.{◌≡◌, List, [], ◌∷◌}
use Rattle.sqlite.specs.Tree.{Trees}
use Rattle.dcc_tariff.specs.Terms.{TermsView}
use Rattle.dcc_store.specs.Books.{Held, PageView}
use Rattle.dcc_sqlite_rows.specs.Stored.{Rows}
use Rattle.dcc_sqlite_rows.specs.OldRows.{IsOldDamaged, AreOfOldBook}
use Rattle.dcc_sqlite_store.specs.Trees.{IsStore, setting_rows}
use Rattle.dcc_sqlite_store.specs.Content.{HoldsBook, HoldsOldBook}
use Rattle.dcc_sqlite_store.specs.Setting.{setting_row, old_setting_row}
use Rattle.dcc_sqlite_store.specs.declared.setting.Setting.{Setting}
use Rattle.dcc_sqlite_store.specs.Opening.{ShowsRows}

-- The store is of layout 1: the row of its setting is the row of this setting, except for the layout.
abbrev pub HasOldSetting : Setting → Trees → Type 0
HasOldSetting setting db = setting_rows db ≡ old_setting_row setting ∷ []

-- A store of layout 1 became the store of layout 2 with the same acts, under the same setting.
pub record IsUpgraded (setting : Setting) (old new : Trees) : Type 0 where
  pub held : Held
  pub was : HoldsOldBook setting.terms old held
  pub is : HoldsBook setting.terms new held
  pub was_of : HasOldSetting setting old
  pub is_of : setting_rows new ≡ setting_row setting ∷ []
  pub store : IsStore new

-- some row of a store of layout 1 is no act's, or does not begin with a subscriber
abbrev pub IsOldDamagedIn : Trees → Type 0
IsOldDamagedIn db = (rows : Rows) × ShowsRows db rows × IsOldDamaged rows

-- no row is damaged, and there is no book whose rows of layout 1 these are
abbrev pub OldDisagreeIn : TermsView → Trees → Type 0
OldDisagreeIn terms db = (rows : Rows) × ShowsRows db rows × (¬ IsOldDamaged rows) × ((pages : List PageView) → ¬ AreOfOldBook terms pages rows)
