-- Who opened a session from a host.
use Rattle.std.specs.Prelude.{◌≡◌, ℕ, ◌+◌, ◌≤◌, bytes_eq, List, Option, Some}
use Rattle.std.specs.Map.{lookup}
use Rattle.std.specs.Option.{option_map_or}
use Rattle.dcc_openers.specs.Names.{found_in}
use Rattle.dcc_openers.specs.declared.names.Names.{Names}
use Rattle.dcc_openers.specs.declared.found.Found.{Found}
use Rattle.dcc_openers.specs.declared.found.Found.TheVariants as found

-- the hosts, each with its sessions
abbrev pub OpenersView : Type 0
OpenersView = List (List ℕ × Names)

abbrev pub names_of : OpenersView → (host : List ℕ) → Option Names
names_of rows host = lookup (bytes_eq host) rows

-- who opened the session from the host
abbrev pub found_at : OpenersView → (host sid : List ℕ) → Found
found_at rows host sid = option_map_or (λ (names : Names). found_in names.names sid) (names_of rows host) found.None

-- there is room for this number of further sessions of this host
pub record HasRoomFor (rows : OpenersView) (host : List ℕ) (number : ℕ) : Type 0 where
  pub names : Names
  pub is : names_of rows host ≡ Some names
  pub room : number ≤ names.room

-- the room of each host stays
abbrev pub KeepsRoom : OpenersView → OpenersView → Type 0
KeepsRoom old new = (host : List ℕ) (number : ℕ) → HasRoomFor old host number → HasRoomFor new host number

-- each host has room for one session less at most
abbrev pub UsesOneRoom : OpenersView → OpenersView → Type 0
UsesOneRoom old new = (host : List ℕ) (number : ℕ) → HasRoomFor old host (number + 1) → HasRoomFor new host number
