-- The indexes of the layout, as the names of their tables make them.
use Rattle.std.proofs.Common.{◌≡◌, ℕ, ◌+◌, true, List, [], ◌∷◌, ◌++◌, codes, ap, arith}
use Rattle.std.proofs.lemmas.Fmt.{decimal_digit}
use Rattle.sqlite_schema.specs.declared.schema.Index.{Index}
use Rattle.sqlite_value.specs.Keys.{plain}
use Rattle.dcc_sqlite_store.specs.Tables.{layout}
use Rattle.dcc_sqlite_store.specs.inner.Layout.{key_indexes}

-- the index of a table, counted by this number
abbrev automatic_of : List ℕ → List ℕ → ℕ → List ℕ → Index
automatic_of name number table key =
    record { name = codes "sqlite_autoindex_" ++ (name ++ (codes "_" ++ number)); tree = table + 1; table = table; columns = key; order = plain; is_unique = true }

pub the_indexes : layout.indexes ≡ key_indexes
the_indexes = ap (λ (number : List ℕ). automatic_of (codes "act") number 1 (1 ∷ 2 ∷ []) ∷ automatic_of (codes "entry") number 3 (1 ∷ 2 ∷ 3 ∷ []) ∷ automatic_of (codes "account") number 5 (1 ∷ []) ∷ [])
    (decimal_digit 1 (omega arith))
