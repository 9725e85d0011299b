-- Subscribers, as a contract sees them.
use Rattle.std.specs.Prelude.{ℕ, ◌≡◌, ◌↔◌, Bool, true, ◌&&◌, ◌==◌, nat_le, bytes_eq, List, length}
use Rattle.dcc_octets.specs.Names.{are_visible}

-- the type and the data of a Subscription-Id (RFC 8506, section 8.46)
pub record SubView : Type 0 where
  pub kind : ℕ
  pub name : List ℕ

-- the types are those of RFC 8506, section 8.47; the data is 1 to 64 octets of visible ASCII
abbrev pub is_sub : ℕ → List ℕ → Bool
is_sub kind name =
    nat_le kind 4 && nat_le 1 (length name) && nat_le (length name) 64 && are_visible name

-- two subscribers are the same: they have the same type and the same data
abbrev pub same_sub : SubView → SubView → Bool
same_sub a b = (a.kind == b.kind) && bytes_eq a.name b.name

-- two subscribers are the same if and only if they are equal
abbrev pub SameAreEqual : Type 0
SameAreEqual = (a b : SubView) → (same_sub a b ≡ true) ↔ (a ≡ b)
