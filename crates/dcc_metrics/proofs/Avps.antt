-- Steps along the AVPs of a message.
use Rattle.std.proofs.Common.{◌≡◌, ℕ, suc, ◌+◌, ◌<◌, ◌≤◌, true, false, List, length, None, Some, refl, arith}
use Rattle.dcc_octets.specs.Numbers.{u32_at}
use Rattle.dcc_metrics.specs.Messages.{has_number, number_from, step_at}

-- behind the last AVP that is looked at
pub passed_all : (code at : ℕ) (message : List ℕ) → number_from code 0 message at ≡ None
unfolding number_from
passed_all code at message = refl

-- the message ends before another number
pub ends_here : (code more at : ℕ) (message : List ℕ) → length message < at + 12 → number_from code (suc more) message at ≡ None
unfolding number_from
ends_here code more at message h = grind arith

-- the number is here
pub found_here : (code more at : ℕ) (message : List ℕ) → at + 12 ≤ length message → has_number code message at ≡ true
    → number_from code (suc more) message at ≡ Some (u32_at message (at + 8))
unfolding number_from
found_here code more at message h is = grind arith

-- one AVP further
pub goes_on : (code more at : ℕ) (message : List ℕ) → at + 12 ≤ length message → has_number code message at ≡ false
    → number_from code (suc more) message at ≡ number_from code more message (at + step_at message at)
unfolding number_from
goes_on code more at message h not = grind arith
