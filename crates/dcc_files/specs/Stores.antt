-- Of which shard a store is.
use Rattle.std.specs.Prelude.{◌≡◌, ◌≢◌, ◌⊎◌, ℕ, ◌^◌, ◌≤◌, false, IsTrue, IsUtf8, [], ◌∷◌, length}
use Rattle.sqlite.specs.Tree.{Trees}
use Rattle.sqlite.specs.Held.{Held, state}
use Rattle.sqlite.specs.State.{State, HasCleanDisk}
use Rattle.sqlite_trees.specs.declared.store.Store.{Ghosts}
use Rattle.sqlite.specs.declared.error.Error.{Error}
use Rattle.sqlite.specs.declared.error.Error.TheVariants.{SqliteFailure}
use Rattle.sqlite.specs.declared.error.ErrorCode.TheVariants.{OutOfMemory}
use Rattle.dcc_tariff.specs.Plans.{PlanView}
use Rattle.dcc_sqlite_store.specs.declared.setting.Setting.{Setting}
use Rattle.dcc_sqlite_store.specs.Setting.{setting_row}
use Rattle.dcc_sqlite_store.specs.Tables.{no_schema, layout}
use Rattle.dcc_sqlite_store.specs.Trees.{setting_rows, act_rows}
use Rattle.dcc_sqlite_store.specs.Opening.{HasOtherSetting, IsDamagedIn, DisagreeIn}
use Rattle.dcc_sqlite_store.specs.Upgrade.{HasOldSetting, IsUpgraded, IsOldDamagedIn, OldDisagreeIn}

-- the setting of the store of a shard, by its index, under a plan
pub record IsSettingOf (plan : PlanView) (shard : ℕ) (setting : Setting) : Type 0 where
  pub index : setting.shard ≡ shard
  pub shards : setting.shards ≡ plan.shards
  pub host : setting.host.now ≡ plan.host
  pub realm : setting.realm.now ≡ plan.realm
  pub terms : setting.terms ≡ plan.terms

-- the setting that stands in the tables is this one, in layout 2
abbrev pub HasSetting : Setting → Trees → Type 0
HasSetting setting db = setting_rows db ≡ setting_row setting ∷ []

-- the setting that stands in the tables is that of this shard under this plan; the tariffs of a plan are no part of it
abbrev pub AreOfShard : PlanView → ℕ → Trees → Type 0
AreOfShard plan shard db = (setting : Setting) × IsSettingOf plan shard setting × HasSetting setting db

-- The store of this shard was of layout 1 and had so many acts. Now it is the store of layout 2 of the same acts.
abbrev pub UpgradesShard : PlanView → ℕ → ℕ → Trees → Trees → Type 0
UpgradesShard plan shard count old new =
    ∥ ((setting : Setting) × IsSettingOf plan shard setting × IsUpgraded setting old new) ∥₁ × (count ≡ length (act_rows old))

-- The store became that of layout 2 of the same acts, this is committed, and the connection may be used.
pub record StandsUpgraded (setting : Setting) (old new : State) : Type 0 where
  pub is_open : IsTrue new.is_open
  pub autocommit : new.in_transaction ≡ false
  pub settled : new.now ≡ new.committed
  pub upgraded : IsUpgraded setting old.now.trees new.now.trees

-- a plan has no such setting: its names are no text, or its index is none that a store can have
abbrev pub HasNoSetting : PlanView → ℕ → Type 0
HasNoSetting plan shard = (¬ IsUtf8 plan.host) ⊎ ((¬ IsUtf8 plan.realm) ⊎ (2 ^ 32 ≤ shard))

-- the setting that stands in the tables is another one, in layout 2 and in layout 1
abbrev pub HasNeitherSetting : Setting → Trees → Type 0
HasNeitherSetting setting db = HasOtherSetting setting db × (¬ HasOldSetting setting db)

-- some row is no act's, or is of nobody, by the records that go with the layout
abbrev pub HasDamage : Setting → Trees → Type 0
HasDamage setting db = (HasSetting setting db × IsDamagedIn db) ⊎ (HasOldSetting setting db × IsOldDamagedIn db)

-- no row is damaged, and there is no book whose rows these are in the layout
abbrev pub HasNoBook : Setting → Trees → Type 0
HasNoBook setting db = (HasSetting setting db × DisagreeIn setting.terms db) ⊎ (HasOldSetting setting db × OldDisagreeIn setting.terms db)

-- a connection that was just opened sees what is committed
abbrev pub SeesCommitted : {S : Type 0} → Ghosts S → Held S → Type 0
SeesCommitted {S} g conn = HasCleanDisk (state g conn) → (state g conn).now ≡ (state g conn).committed

-- the tables are those of a store, and this is so of them under the setting of the shard, if the disk has returned the written octets
abbrev pub IsFound : {S : Type 0} → Ghosts S → PlanView → ℕ → Held S → (Setting → Trees → Type 0) → Type 0
IsFound {S} g plan shard conn Says =
    (conn.schema ≡ layout) × (setting : Setting) × IsSettingOf plan shard setting × (after : Held S) × (HasCleanDisk (state g after) → Says setting (state g conn).now.trees)

-- The number of the fault for which a database isn't opened as the store of a shard, with its cause: 50 want of memory, 51 the database failed,
-- 53 other tables or another setting, 54 rows of no book, 55 a row of no act or of nobody. The rows are judged if the disk has returned
-- the written octets.
abbrev pub IsOpenFault : {S : Type 0} → Ghosts S → PlanView → ℕ → Held S → ℕ → Type 0
IsOpenFault {S} g plan shard conn number =
    ((number ≡ 50) ⊎ (number ≡ 51))
    ⊎ (((number ≡ 53) × (HasNoSetting plan shard ⊎ (((conn.schema ≢ no_schema) × (conn.schema ≢ layout)) ⊎ IsFound g plan shard conn HasNeitherSetting)))
    ⊎ (((number ≡ 54) × IsFound g plan shard conn HasNoBook) ⊎ ((number ≡ 55) × IsFound g plan shard conn HasDamage)))

-- the fault that opening a file reports: want of memory, or that it failed
abbrev pub connect_number : Error → ℕ
connect_number (SqliteFailure OutOfMemory) = 50
connect_number _ = 51

-- the numbers for which a file isn't opened
abbrev pub IsConnectFault : ℕ → Type 0
IsConnectFault number = (number ≡ 50) ⊎ (number ≡ 51)

-- The numbers for which a file isn't looked into as a store: it isn't opened, or 57, there are fewer acts in it than its count file says, or this file
-- has no number. What is in a count file is the system's word.
abbrev pub IsCountFault : ℕ → Type 0
IsCountFault number = IsConnectFault number ⊎ (number ≡ 57)

-- the number of the fault for which a file is refused: it isn't opened, has lost acts, or the database in it isn't opened as the store of the shard
abbrev pub IsFileFault : {S : Type 0} → Ghosts S → PlanView → ℕ → ℕ → Type 0
IsFileFault {S} g plan shard number = IsCountFault number ⊎ ((conn : Held S) × IsOpenFault g plan shard conn number)

-- the number of the fault for which the store of a shard is refused: its file is, or there is none and the file of another shard is
abbrev pub IsStoreFault : {S : Type 0} → Ghosts S → PlanView → ℕ → ℕ → Type 0
IsStoreFault g plan shard number = IsFileFault g plan shard number ⊎ ((other : ℕ) × IsFileFault g plan other number)
