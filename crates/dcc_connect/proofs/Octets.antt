-- What went out after one more write.
use Rattle.std.proofs.Common.{◌≡◌, ℕ, ◌+◌, ◌-◌, ◌≤◌, List, ◌++◌, length, take, drop, Option, sym, ap, subst, ◌∙◌, arith, length-take}
use lib.Seq.{take-add, take-take}
use Rattle.std.specs.Io.KnownBytes.{Appends}
use Rattle.std.proofs.KnownBytes.{Appends-trans}

-- so many octets of those that were left went out behind those before
pub sent_more : (old mid new : Option (List ℕ)) (octets : List ℕ) (at n : ℕ) → at ≤ length octets
    → n ≤ length (take (length octets - at) (drop at octets)) → Appends old mid (take at octets)
    → Appends mid new (take n (take (length octets - at) (drop at octets))) → (at + n ≤ length octets) × Appends old new (take (at + n) octets)
sent_more old mid new octets at n within fits before now =
    let most = length-take (length octets - at) (drop at octets) in
    let joined : take at octets ++ take n (take (length octets - at) (drop at octets)) ≡ take (at + n) octets =
    ap (λ l. take at octets ++ l) (take-take n (length octets - at) (drop at octets) (omega arith)) ∙ sym (take-add at n octets) in
    (omega arith, subst (Appends old new) joined (Appends-trans old mid new _ _ before now))
