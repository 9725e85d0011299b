-- A store of layout 1 as an upgrade finds it, and the store that the upgrade leaves.
use Rattle.std.specs.Prelude.{◌≡◌, ℕ, IsTrue, List, length}
use Rattle.sqlite.specs.Tree.{Trees}
use Rattle.sqlite.specs.State.{State}
use Rattle.dcc_tariff.specs.Terms.{TermsView}
use Rattle.dcc_store.specs.Books.{PageView}
use Rattle.dcc_sqlite_rows.specs.Stored.{Rows}
use Rattle.dcc_sqlite_rows.specs.OldRows.{AreOfOldBook}
use Rattle.dcc_sqlite_store.specs.Tables.{layout}
use Rattle.dcc_sqlite_store.specs.Trees.{act_rows}
use Rattle.dcc_sqlite_store.specs.Opening.{ShowsRows}
use Rattle.dcc_sqlite_store.specs.Upgrade.{HasOldSetting, IsUpgraded}
use Rattle.dcc_sqlite_store.specs.declared.setting.Setting.{Setting}

-- the tables show the rows of these pages, with so many rows of acts
abbrev pub ShowsOldPages : TermsView → Trees → List PageView → ℕ → Type 0
ShowsOldPages terms db pages acts = (rows : Rows) × ShowsRows db rows × AreOfOldBook terms pages rows × (acts ≡ length rows.acts)

-- The upgraded store is committed, and has as many acts as the store had.
pub record HasUpgraded (setting : Setting) (old new : State) (count : ℕ) : Type 0 where
  pub is_open : IsTrue new.is_open
  pub settled : new.now ≡ new.committed
  pub schema : new.now.schema ≡ layout
  pub upgraded : IsUpgraded setting old.now.trees new.now.trees
  pub counted : count ≡ length (act_rows old.now.trees)

-- the trees that may be committed over a store of layout 1; for another database, any trees
abbrev pub CanUpgrade : Setting → State → Trees → Type 0
CanUpgrade setting old db = old.now.schema ≡ layout → HasOldSetting setting old.now.trees → ∥ IsUpgraded setting old.now.trees db ∥₁
