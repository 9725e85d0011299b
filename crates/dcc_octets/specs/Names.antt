-- Limits on octets that are a name.
use Rattle.std.specs.Prelude.{ℕ, Bool, ◌&&◌, nat_le, List, length}
use Rattle.std.specs.List.{list_all}
use Rattle.dcc_octets.specs.declared.names.TheConstants.{FIRST_VISIBLE, LAST_VISIBLE, MAX_NAME}

-- each octet is a visible character of ASCII
abbrev pub are_visible : List ℕ → Bool
are_visible octets = list_all (λ octet. nat_le FIRST_VISIBLE octet && nat_le octet LAST_VISIBLE) octets

-- 1 to 255 octets
abbrev pub is_short : List ℕ → Bool
is_short octets = nat_le 1 (length octets) && nat_le (length octets) MAX_NAME

-- 1 to 255 octets, each a visible character of ASCII
abbrev pub is_name : List ℕ → Bool
is_name octets = is_short octets && are_visible octets
