-- Which octets are a refusal.
use Rattle.std.proofs.Common.{◌≡◌, ℕ, ◌≤◌, ◌==◌, true, false, List, [], length, refl, arith}
use Rattle.std.proofs.lemmas.Bool.{eqb-true, false_from_ne_true}
use Rattle.dcc_answer.specs.Results.{is_busy}
use Rattle.dcc_message.specs.declared.length.TheConstants.{HEADER_LENGTH}
use Rattle.dcc_dispatch.specs.Refusals.{is_refusal}

some_length : (n : ℕ) → HEADER_LENGTH ≤ n → (n == 0) ≡ false
some_length n le = false_from_ne_true (n == 0) (λ h. let e = eqb-true n 0 h in absurd (omega arith))

pub refusal_of : (octets : List ℕ) → HEADER_LENGTH ≤ length octets → is_refusal octets ≡ is_busy octets
unfolding is_refusal
refusal_of octets le = rw (some_length (length octets) le) refl

pub nothing_is_one : is_refusal [] ≡ true
unfolding is_refusal
nothing_is_one = refl
