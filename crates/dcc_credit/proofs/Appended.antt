-- Octets that were appended in two parts.
use Rattle.std.proofs.Common.{◌≡◌, ℕ, List, ◌++◌, sym, ap, ◌∙◌, append_assoc}
use Rattle.std.specs.List.{flat_map}
use Rattle.std.proofs.lemmas.List.Concat.{flat_map-append}
use Rattle.dcc_avp.specs.Spelling.{AvpView, padded}

-- behind what the first part left, the second part stands behind both
pub both_parts : (old mid : List ℕ) (front back : List AvpView) → mid ≡ old ++ flat_map padded front → mid ++ flat_map padded back ≡ old ++ flat_map padded (front ++ back)
both_parts old mid front back first =
    ap (λ (octets : List ℕ). octets ++ flat_map padded back) first ∙ append_assoc old (flat_map padded front) (flat_map padded back) ∙
    ap (λ (octets : List ℕ). old ++ octets) (sym (flat_map-append padded front back))
