-- One act of a page, judged.
use Rattle.std.specs.Prelude.{◌≡◌, ◌≢◌, ◌⊎◌, ℕ, ◌+◌, List, [], ◌∷◌, ◌++◌, length, take}
use Rattle.sqlite.specs.Order.{Row}
use Rattle.dcc_tariff.specs.Terms.{TermsView}
use Rattle.dcc_act.specs.declared.act.Act.{Act}
use Rattle.dcc_act.specs.declared.entry.Entry.{Entry}
use Rattle.dcc_model.specs.Outcomes.{acts}
use Rattle.dcc_model.specs.Entries.{entries}
use Rattle.dcc_sqlite_rows.specs.Rows.{entry_rows_of}

-- the act adds so many entries, and the rows begin with the rows of these entries
pub record IsTaken (terms : TermsView) (sub : List ℕ) (before : List Act) (act : Act) (rows : List Row) (count : ℕ) : Type 0 where
  pub adds : List Entry
  pub added : entries terms (before ++ act ∷ []) ≡ entries terms before ++ adds
  pub many : count ≡ length adds
  pub begins : take (length adds) rows ≡ entry_rows_of sub (length before + 1) 0 adds

-- the act isn't new, or the rows don't begin with the rows of the entries that it adds
abbrev pub IsOther : TermsView → List ℕ → List Act → Act → List Row → Type 0
IsOther terms sub before act rows =
    (acts terms (before ++ act ∷ []) ≡ before)
    ⊎ ((adds : List Entry) × (entries terms (before ++ act ∷ []) ≡ entries terms before ++ adds) × (take (length adds) rows ≢ entry_rows_of sub (length before + 1) 0 adds))
