-- How the data of a subscriber is stored.
use Rattle.std.specs.Prelude.{ℕ, ◌≡◌, ◌-◌, ◌≤◌, List, ◌++◌, length, take, replicate}
use Rattle.std.proofs.Common.{sym, arith}
use Rattle.std.proofs.lemmas.List.{length-take-le}

-- with zeros up to 64 octets
abbrev pub padded : List ℕ → List ℕ
padded name = name ++ replicate (64 - length name) 0

-- the stored value is recovered from the value that a contract sees
pub length_kept : (len : ℕ) (octets : List ℕ) → len ≤ 64 → length octets ≡ 64 → length (take len octets) ≡ len
length_kept len octets short whole = length-take-le len octets (omega arith)

pub unpadded : (len : ℕ) (octets : List ℕ) → octets ≡ padded (take len octets) → padded (take len octets) ≡ octets
unpadded len octets stored = sym stored
