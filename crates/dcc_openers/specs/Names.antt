-- The sessions of a host.
use Rattle.std.specs.Prelude.{ℕ, bytes_eq, unwrap_or, List}
use Rattle.std.specs.Map.{lookup}
use Rattle.dcc_openers.specs.declared.found.Found.{Found}
use Rattle.dcc_openers.specs.declared.found.Found.TheVariants as found

-- the sessions, each with the subscribers who opened it, and the number of further sessions for which there is memory
pub record NamesView : Type 0 where
  pub names : List (List ℕ × Found)
  pub room : ℕ

abbrev pub found_in : List (List ℕ × Found) → (sid : List ℕ) → Found
found_in names sid = unwrap_or (lookup (bytes_eq sid) names) found.None
