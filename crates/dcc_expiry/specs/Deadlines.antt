-- The deadlines of sessions.
use Rattle.std.specs.Prelude.{◌≡◌, ℕ, ◌≤◌, Bool, if◌then◌else◌, List, [], ◌∷◌, length, Option, Some, None, IfSome, nat_eq, nat_le}
use Rattle.std.specs.Option.{option_and_then}
use Rattle.std.specs.Cmp.Lexicographic.{pointwise}
use Rattle.dcc_expiry.specs.declared.row.Row.{Row}

-- sessions with their deadlines, and the number of further deadlines for which there is memory
pub record DueView : Type 0 where
  pub rows : List Row
  pub room : ℕ

-- the number of sessions with a deadline
abbrev pub count_of : DueView → ℕ
count_of due = length due.rows

-- two sessions are the same: their names are the same octets
abbrev pub same_session : List ℕ → List ℕ → Bool
same_session a b = pointwise nat_eq a b

-- the deadline of a session, if it has any
abbrev pub deadline_in : List Row → List ℕ → Option ℕ
deadline_in [] sid = None
deadline_in (row ∷ rows) sid = if same_session row.session sid then Some row.deadline else deadline_in rows sid

unfoldable pub deadline_of : DueView → List ℕ → Option ℕ
deadline_of due sid = deadline_in due.rows sid

-- a deadline after the moment; none if it is the moment or before it
abbrev pub later_than : ℕ → Option ℕ → Option ℕ
later_than moment deadline = option_and_then (λ until. if nat_le until moment then None else Some until) deadline

-- The session is due at the moment, and none has an earlier deadline.
pub record IsFirstDue (due : DueView) (moment : ℕ) (sid : List ℕ) : Type 0 where
  pub deadline : ℕ
  pub own : deadline_of due sid ≡ Some deadline
  pub come : deadline ≤ moment
  pub least : (other : List ℕ) → IfSome (deadline_of due other) (λ later. deadline ≤ later)
