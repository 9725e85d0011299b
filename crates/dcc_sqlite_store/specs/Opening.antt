-- The state that an opening finds.
use Rattle.std.specs.Prelude.{◌≡◌, ◌≢◌, ◌⊎◌, List, [], ◌∷◌}
use Rattle.sqlite.specs.Tree.{Trees}
use Rattle.dcc_tariff.specs.Terms.{TermsView}
use Rattle.dcc_store.specs.Books.{Held, PageView}
use Rattle.dcc_store.specs.Contents.{Content}
use Rattle.dcc_store.specs.Stops.{LeavesOnly}
use Rattle.dcc_sqlite_rows.specs.Stored.{Rows, IsDamaged, AreOfBook}
use Rattle.dcc_sqlite_store.specs.Content.{HoldsBook}
use Rattle.dcc_sqlite_store.specs.Setting.{setting_row}
use Rattle.dcc_sqlite_store.specs.declared.setting.Setting.{Setting}
use Rattle.dcc_sqlite_store.specs.declared.fault.OpenFault.{OpenFault}
use Rattle.dcc_sqlite_store.specs.declared.fault.OpenFault.TheVariants.{Memory, Device, Layout}
use Rattle.dcc_sqlite_store.specs.Trees.{setting_rows}
use Rattle.dcc_sqlite_store.specs.Queries.{acts_query, entries_query, accounts_query, Shows}

-- the rows of acts, entries and accounts, in the order of their keys
pub record ShowsRows (db : Trees) (rows : Rows) : Type 0 where
  pub acts : Shows acts_query db rows.acts
  pub entries : Shows entries_query db rows.entries
  pub accounts : Shows accounts_query db rows.accounts

-- some row is no act's, or does not begin with a subscriber
abbrev pub IsDamagedIn : Trees → Type 0
IsDamagedIn db = (rows : Rows) × ShowsRows db rows × IsDamaged rows

-- no row is damaged, and there is no book whose rows these are
abbrev pub DisagreeIn : TermsView → Trees → Type 0
DisagreeIn terms db = (rows : Rows) × ShowsRows db rows × (¬ IsDamaged rows) × ((pages : List PageView) → ¬ AreOfBook terms pages rows)

-- the tables hold a book, and a stop leaves its content and nothing else
abbrev pub FindsBook : TermsView → Trees → (Content → Type 0) → Type 0
FindsBook terms db left = (held : Held) × HoldsBook terms db held × LeavesOnly terms held left

-- the rows of the setting are not exactly the row of this setting
abbrev pub HasOtherSetting : Setting → Trees → Type 0
HasOtherSetting setting db = setting_rows db ≢ setting_row setting ∷ []

-- the faults for which a store that a stop left isn't opened under a setting: memory was refused, the database failed, or a database that
-- the stop leaves has another setting
abbrev pub IsRefusedAfter : (Trees → Type 0) → Setting → OpenFault → Type 0
IsRefusedAfter may_leave setting fault =
    (fault ≡ Memory) ⊎ ((fault ≡ Device) ⊎ ((fault ≡ Layout) × ∥ ((db : Trees) × may_leave db × HasOtherSetting setting db) ∥₁))
