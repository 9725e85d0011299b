-- The rows are in the order of their deadlines, and each session stands in them once.
use Rattle.std.specs.Prelude.{◌≡◌, Bool, true, ◌&&◌, List, [], ◌∷◌, is_none}
use Rattle.std.specs.List.Sorted.{IsNonDecreasingBy}
use Rattle.dcc_expiry.specs.Deadlines.{deadline_in}
use Rattle.dcc_expiry.specs.declared.row.Row.{Row}

-- each session has one row at most
abbrev pub are_once : List Row → Bool
are_once [] = true
are_once (row ∷ rows) = is_none (deadline_in rows row.session) && are_once rows

pub record AreRows (rows : List Row) : Type 0 where
  pub ordered : IsNonDecreasingBy (λ (row : Row). row.deadline) rows
  pub once : are_once rows ≡ true
