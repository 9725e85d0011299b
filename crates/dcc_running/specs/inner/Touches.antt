-- Subscribers at whom calls may have made acts whose receipts no audit has compared.
use Rattle.std.specs.Prelude.{ℕ, Bool, List, is_some}
use Rattle.std.specs.Map.{lookup}
use Rattle.dcc_act.specs.declared.sub.Sub.{Sub}
use Rattle.dcc_act.specs.Subs.{same_sub}

-- these subscribers, each with the number of the calls
abbrev pub Touched : Type 0
Touched = List (Sub × ℕ)

abbrev pub is_touched : Touched → Sub → Bool
is_touched touched sub = is_some (lookup (same_sub sub) touched)
