-- What an answer shows as wrong can be spelled where it has few octets.
use Rattle.std.proofs.Common.{ℕ, ◌*◌, ◌≤◌, List, [], ◌∷◌, length, Option, Some, None, arith, lit<}
use Rattle.std.specs.List.{flat_map, sum_by, AllByRecursion}
use Rattle.std.proofs.lemmas.List.{length-append, length-replicate}
use Rattle.std.proofs.lemmas.List.Sums.{sum_by-cons}
use Rattle.dcc_avp.specs.Spelling.{AvpView, padded_len, vendor_octets, spelling, padded, HasSpelling}
use Rattle.dcc_avp.specs.declared.codes.TheConstants.{FAILED_AVP}
use Rattle.dcc_message.specs.declared.length.TheConstants.{MAX_LENGTH}
use Rattle.dcc_answer.specs.Failed.{failed_avps}
use Rattle.dcc_answer.proofs.Spelled.{sent_spelled}

vendor_few : (vendor : Option ℕ) → length (vendor_octets vendor) ≤ 4
vendor_few None = omega arith
vendor_few (Some vendor) = omega arith

padded_most : (avp : AvpView) → length (padded avp) ≤ 2 * padded_len avp
unfolding padded spelling
padded_most avp = grind (arith, length-append, length-replicate, vendor_few)

all_most : (avps : List AvpView) → length (flat_map padded avps) ≤ 2 * sum_by padded_len avps
all_most [] = omega arith
all_most (avp ∷ avps) =
    let first = padded_most avp in
    let others = all_most avps in
    let parts = length-append (padded avp) (flat_map padded avps) in
    let sum = sum_by-cons padded_len avp avps in
    omega arith

pub failed_spelled : (failed : List AvpView) → sum_by padded_len failed ≤ MAX_LENGTH → AllByRecursion HasSpelling (failed_avps failed)
failed_spelled [] few = tt
failed_spelled (first ∷ others) few =
    let most = all_most (first ∷ others) in
    (sent_spelled FAILED_AVP (flat_map padded (first ∷ others)) (lit< tt) (omega arith), tt)
