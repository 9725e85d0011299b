-- The hosts of gateways on a page.
use Rattle.std.specs.Prelude.{ℕ, ◌+◌, ◌-◌, ◌^◌, min, ◌==◌, ◌||◌, if◌then◌else◌, List, [], ◌∷◌, ◌++◌, codes}
use Rattle.std.specs.Fmt.{decimal}
use Rattle.std.specs.List.{flat_map}
use Rattle.dcc_octets.specs.Names.{is_name}
use Rattle.dcc_metrics.specs.Pages.{head_of, line_of}
use Rattle.dcc_metrics.specs.declared.family.Family.TheVariants as families

-- a quote and a backslash stand behind a backslash
abbrev pub escaped : ℕ → List ℕ
escaped octet = if (octet == 34) || (octet == 92) then 92 ∷ octet ∷ [] else octet ∷ []

-- the labels of a host; places are counted from 1
unfoldable pub host_tail : (place : ℕ) → (host : List ℕ) → List ℕ
host_tail place host =
    codes "{place=\"" ++ decimal (min (place + 1) (2 ^ 64 - 1)) ++ codes "\",host=\"" ++ flat_map escaped host ++ codes "\"}"

-- a line for a host that is a name
abbrev pub host_text : (place : ℕ) → (host : List ℕ) → List ℕ
host_text place host = if is_name host then line_of families.GatewayInfo (host_tail place host) (codes "1") else []

-- the lines of hosts, the first of which is at this place
unfoldable pub host_lines : (place : ℕ) → List (List ℕ) → List ℕ
host_lines place [] = []
host_lines place (host ∷ hosts) = host_text place host ++ host_lines (place + 1) hosts

unfoldable pub hosts_text : List (List ℕ) → List ℕ
hosts_text hosts = head_of families.GatewayInfo ++ host_lines 0 hosts
