-- The row of a store's setting.
use Rattle.std.specs.Prelude.{◌≡◌, ℕ, pos, [], ◌∷◌}
use Rattle.sqlite.specs.declared.types.Value.TheVariants.{Int, Text}
use Rattle.sqlite.specs.Order.{Row}
use Rattle.sqlite.specs.Tree.{Trees}
use Rattle.dcc_sqlite_store.specs.declared.setting.Setting.{Setting}
use Rattle.dcc_sqlite_store.specs.Trees.{AreEmpty, IsStore, setting_rows}

-- row 1, of a store of this layout
abbrev pub setting_row_in : (layout : ℕ) → Setting → Row
setting_row_in layout setting =
    Int (pos 1)
    ∷ Int (pos layout)
    ∷ Int (pos setting.shard)
    ∷ Int (pos setting.shards)
    ∷ Text setting.host.now
    ∷ Text setting.realm.now
    ∷ Int (pos setting.terms.validity)
    ∷ Int (pos setting.terms.hold)
    ∷ Int (pos setting.terms.currency)
    ∷ Int setting.terms.exponent ∷ []

-- stores are made in layout 2: their records of acts are of version 2
abbrev pub setting_row : Setting → Row
setting_row setting = setting_row_in 2 setting

-- stores of layout 1 have records of acts of version 1
abbrev pub old_setting_row : Setting → Row
old_setting_row setting = setting_row_in 1 setting

-- the tables of a store, with no acts, entries and accounts, and this setting
abbrev pub IsFirst : Setting → Trees → Type 0
IsFirst setting db = AreEmpty db × (setting_rows db ≡ setting_row setting ∷ []) × IsStore db
