-- A list that was read: that it fits a message, or its fault.
use Rattle.std.proofs.Common.{◌≡◌, ℕ, ◌+◌, ◌-◌, ◌%◌, ◌≤◌, List, [], ◌∷◌, length, take, drop, Result, Ok, Err, Some, refl, ◌∙◌, arith}
use Rattle.std.specs.Prelude.{IfOk, OnOk}
use Rattle.std.specs.List.{sum_by}
use Rattle.std.specs.Int.{next_multiple_of}
use Rattle.std.proofs.lemmas.List.{take_all, length-drop}
use Rattle.std.proofs.lemmas.List.Sums.{sum_by-cons}
use Rattle.dcc_avp.specs.Spelling.{AvpView, avp_len, padded_len}
use Rattle.dcc_avp.specs.Reading.{FaultView, Tells}
use Rattle.dcc_avp.specs.declared.fault.AvpFault.{AvpFault}
use Rattle.dcc_avp.specs.declared.fault.AvpFault.TheVariants as faults
use Rattle.dcc_message.specs.declared.length.TheConstants.{HEADER_LENGTH, MAX_LENGTH}
use Rattle.dcc_request.specs.Layout.{layout_fault}
use Rattle.dcc_dispatch.specs.inner.Headings.{fault_of, IsWhole}

word : (n : ℕ) → next_multiple_of n 4 % 4 ≡ 0
word n = omega arith

both : (n m : ℕ) → n % 4 ≡ 0 → m % 4 ≡ 0 → (n + m) % 4 ≡ 0
both n m a b = omega arith

-- with their padding, AVPs take whole words of four octets
whole_words : (avps : List AvpView) → sum_by padded_len avps % 4 ≡ 0
whole_words [] = refl
whole_words (avp ∷ avps) = rw (sum_by-cons padded_len avp avps) (both (padded_len avp) (sum_by padded_len avps) (word (avp_len avp)) (whole_words avps))

few : (n s : ℕ) → n ≤ 65532 → n % 4 ≡ 0 → 20 ≤ n → s ≤ (n - 20) + 3 → s % 4 ≡ 0 → 20 + s ≤ 65532
few n s most words least within sums = omega arith

-- so what is read of a message fits one
pub read_fits : (octets : List ℕ) (avps : List AvpView) → IsWhole octets → sum_by padded_len avps ≤ (length octets - HEADER_LENGTH) + 3 → HEADER_LENGTH + sum_by padded_len avps ≤ MAX_LENGTH
read_fits octets avps whole within = few (length octets) (sum_by padded_len avps) whole.most whole.words whole.least within (whole_words avps)

-- a fault of layout is the list's
pub layout_told : (fault : AvpFault) (read : Result (List AvpView) FaultView) → layout_fault fault ≡ Some (fault_of fault) → Tells fault (λ seen. read ≡ Err seen) → read ≡ Err (fault_of fault)
layout_told (faults.Short code flags) read is told = told
layout_told (faults.LengthBelowHeader code flags) read is told = told
layout_told (faults.LengthPastEnd code flags) read is told = told
layout_told faults.WrongSize read is told = absurd told
layout_told faults.Memory read is told = absurd cc

-- what was read, where memory sufficed
pub read_where : {X E : Type 0} (r : Result X E) (x y : X) (P : Type 0) → (P → x ≡ y) → IfOk r (λ z. z ≡ x) → OnOk r P → IfOk r (λ z. z ≡ y)
read_where (Ok z) x y P same is holds = is ∙ same holds
read_where (Err e) x y P same is holds = tt

-- a slice to the end
pub rest_of : (n m : ℕ) (xs : List ℕ) → length xs ≡ m → take (m - n) (drop n xs) ≡ drop n xs
rest_of n m xs len = take_all (m - n) (drop n xs) (omega (arith, length-drop n xs))
