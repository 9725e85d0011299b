-- What records hold whose store was stopped in the midst of its upgrade.
use Rattle.std.specs.Prelude.{◌≡◌, ◌⊎◌}
use Rattle.sqlite.specs.State.{State}
use Rattle.sqlite.specs.Tree.{Trees}
use Rattle.dcc_tariff.specs.Terms.{TermsView}
use Rattle.dcc_store.specs.Books.{Held}
use Rattle.dcc_store.specs.Stops.{LeavesOnly}
use Rattle.dcc_sqlite_store.specs.Content.{HoldsBook, HoldsOldBook, leaves}
use Rattle.dcc_sqlite_store.specs.Trees.{IsStore}
use Rattle.dcc_sqlite_store.specs.Upgrade.{HasOldSetting, IsUpgraded}
use Rattle.dcc_sqlite_store.specs.declared.fault.OpenFault.{OpenFault}
use Rattle.dcc_sqlite_store.specs.declared.fault.OpenFault.TheVariants.{Memory, Device}
use Rattle.dcc_sqlite_store.specs.declared.setting.Setting.{Setting}

-- The tables are those of a store of layout 1 under this setting, and hold this book.
pub record IsOldStore (setting : Setting) (db : Trees) (held : Held) : Type 0 where
  pub store : IsStore db
  pub of : HasOldSetting setting db
  pub book : HoldsOldBook setting.terms db held

-- it is the old store, or the upgraded one
abbrev pub IsOldOrUpgraded : Setting → Trees → Trees → Type 0
IsOldOrUpgraded setting old db = (db ≡ old) ⊎ ∥ IsUpgraded setting old db ∥₁

-- a stop in the midst of the upgrade leaves the one or the other
abbrev pub LeavesOldOrUpgraded : Setting → Trees → (Trees → Type 0) → Type 0
LeavesOldOrUpgraded setting old may_leave = (db : Trees) → may_leave db → IsOldOrUpgraded setting old db

-- The tables hold this book, and a stop leaves its content and nothing else.
pub record HoldsJust (terms : TermsView) (s : State) (held : Held) : Type 0 where
  pub book : ∥ HoldsBook terms s.now.trees held ∥₁
  pub left : LeavesOnly terms held (leaves terms s)

-- memory was refused, or the database failed
abbrev pub IsMemoryOrDevice : OpenFault → Type 0
IsMemoryOrDevice fault = (fault ≡ Memory) ⊎ (fault ≡ Device)
