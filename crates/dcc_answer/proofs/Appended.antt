-- Octets that were appended in two parts.
use Rattle.std.proofs.Common.{◌≡◌, ℕ, ◌≤◌, List, ◌++◌, length, drop}
use Rattle.std.proofs.lemmas.List.{drop-append-le}

-- what is appended stands behind the room for a header
pub behind_header : (begun others : List ℕ) → 20 ≤ length begun → drop 20 (begun ++ others) ≡ drop 20 begun ++ others
behind_header begun others long = drop-append-le 20 begun others long
