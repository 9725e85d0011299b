-- Visible characters of ASCII are text.
use Rattle.std.proofs.Common.{◌≡◌, ℕ, zero, suc, ◌<◌, true, ◌&&◌, List, [], ◌∷◌, arith}
use Rattle.std.specs.Prelude.{nat_le, slice_index}
use Rattle.std.specs.Str.{IsUtf8}
use Rattle.std.proofs.lemmas.Bool.{and_parts}
use Rattle.std.proofs.lemmas.Bool.Decides.{nat_tests}
use Rattle.std.proofs.lemmas.Str.{IsUtf8-from_ascii}
use Rattle.dcc_octets.specs.Names.{are_visible}
use Rattle.dcc_octets.specs.declared.names.TheConstants.{FIRST_VISIBLE, LAST_VISIBLE}

is_ascii : (octets : List ℕ) → are_visible octets ≡ true → (i : ℕ) → slice_index octets i < 128
is_ascii [] h i = omega arith
is_ascii (octet ∷ octets) h zero =
    let both = and_parts (nat_le FIRST_VISIBLE octet && nat_le octet LAST_VISIBLE) (are_visible octets) h in
    let last = (and_parts (nat_le FIRST_VISIBLE octet) (nat_le octet LAST_VISIBLE) both.0).1 in
    grind (arith, nat_tests)
is_ascii (octet ∷ octets) h (suc i) = is_ascii octets (and_parts (nat_le FIRST_VISIBLE octet && nat_le octet LAST_VISIBLE) (are_visible octets) h).1 i

pub is_text : (octets : List ℕ) → are_visible octets ≡ true → IsUtf8 octets
is_text octets h = IsUtf8-from_ascii octets (is_ascii octets h)
