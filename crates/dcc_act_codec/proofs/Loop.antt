-- Reading parts one after the other, as a loop does.
use Rattle.std.proofs.Common.{◌≡◌, ℕ, suc, ◌-◌, ◌+◌, ◌≤◌, ◌<◌, List, [], ◌∷◌, ◌++◌, Option, Some, None, refl, sym, ap, ◌∙◌, append_assoc, arith}
use Rattle.std.proofs.lemmas.List.{append-nil}
use Rattle.dcc_act_codec.specs.declared.fault.RecordFault.{RecordFault}
use Rattle.dcc_act_codec.specs.declared.fault.RecordFault.TheVariants.{BadRecord, Memory}
use Rattle.dcc_act_codec.specs.inner.Readers.{◌>>=◌, Reader, Fails, many_in}

-- what was read before, and what is still read
abbrev pub with_front : {A : Type 0} → List A → Option (List A × List ℕ) → Option (List A × List ℕ)
with_front front read = read >>= λ x. Some (front ++ x.0, x.1)

regroup : {A : Type 0} (front : List A) (value : A) (read : Option (List A × List ℕ))
    → with_front front (read >>= λ x. Some (value ∷ x.0, x.1)) ≡ with_front (front ++ value ∷ []) read
regroup {A} front value (Some x) = ap (λ (values : List A). Some (values, x.1)) (simp append_assoc)
regroup front value None = refl

pub goes_on : {A : Type 0} (part : Reader A) (front : List A) (count i : ℕ) (octets : List ℕ) (value : A) (after : List ℕ)
    (total : Option (List A × List ℕ)) → i < count → part octets ≡ Some (value, after)
    → with_front front (many_in part (count - i) octets) ≡ total
    → with_front (front ++ value ∷ []) (many_in part (count - (i + 1)) after) ≡ total
goes_on {A} part front count i octets value after total lt h so_far =
    let k : count - i ≡ suc (count - (i + 1)) = omega arith in
    let one : with_front front (many_in part (count - i) octets) ≡ with_front (front ++ value ∷ []) (many_in part (count - (i + 1)) after) =
    rw (k, h) (regroup front value (many_in part (count - (i + 1)) after)) in
    sym one ∙ so_far

pub ends : {A : Type 0} (part : Reader A) (fault : RecordFault) (front : List A) (count i : ℕ) (octets : List ℕ)
    (total : Option (List A × List ℕ)) → i < count → Fails fault (part octets)
    → with_front front (many_in part (count - i) octets) ≡ total → Fails fault total
ends part Memory front count i octets total lt h so_far = tt
ends part BadRecord front count i octets total lt h so_far =
    let k : count - i ≡ suc (count - (i + 1)) = omega arith in
    let one : with_front front (many_in part (count - i) octets) ≡ None = rw (k, h) refl in
    sym so_far ∙ one

pub is_done : {A : Type 0} (part : Reader A) (front : List A) (count i : ℕ) (octets : List ℕ) (total : Option (List A × List ℕ))
    → count ≤ i → with_front front (many_in part (count - i) octets) ≡ total → total ≡ Some (front, octets)
is_done {A} part front count i octets total le so_far =
    let k : count - i ≡ 0 = omega arith in
    let one : with_front front (many_in part (count - i) octets) ≡ Some (front, octets) =
    rw k (ap (λ (values : List A). Some (values, octets)) (append-nil front)) in
    sym so_far ∙ one
