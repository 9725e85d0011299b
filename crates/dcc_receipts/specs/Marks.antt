-- Places of subscribers.
use Rattle.std.specs.Prelude.{ℕ, Bool, false, List, [], slice_index_or}
use Rattle.std.specs.Map.{lookup}
use Rattle.std.specs.Option.{unwrap_or}
use Rattle.dcc_act.specs.declared.sub.Sub.{Sub}
use Rattle.dcc_act.specs.Subs.{same_sub}

-- subscribers, each with whether the places from 0 on are marked
abbrev pub MarksView : Type 0
MarksView = List (Sub × List Bool)

-- whether a place is marked in such a list; a place behind its end is not
abbrev pub is_at : List Bool → ℕ → Bool
is_at own place = slice_index_or own place false

-- whether a subscriber's place is marked
abbrev pub is_marked : MarksView → Sub → ℕ → Bool
is_marked marks sub place = is_at (unwrap_or (lookup (same_sub sub) marks) []) place
