-- Where a stream's first message ends.
use Rattle.std.proofs.Common.{◌≡◌, ℕ, ◌≤◌, ◌<◌, true, false, List, ◌++◌, length, refl, ◌∙◌, arith, Some, None, Option, is_none}
use Rattle.std.proofs.lemmas.Bool.Decides.{nat_tests}
use Rattle.std.proofs.lemmas.List.{get_or_append_left, length-append}
use Rattle.std.proofs.Math.Seq.{take-append_seam, drop-append_seam}
use Rattle.dcc_message.specs.Streams.{length_field, length_fault, fault_at, begins_whole, first_message, after_first}
use Rattle.dcc_message.specs.inner.Frames.{IsMessage}

-- what makes a message stand whole at the front
pub record Stands (stream : List ℕ) : Type 0 where
  pub four : 4 ≤ length stream
  pub fine : length_fault (length_field stream) ≡ None
  pub within : length_field stream ≤ length stream

none_is : {X : Type 0} (o : Option X) → is_none o ≡ true → o ≡ None
none_is None h = refl
none_is (Some x) h = absurd cc

pub stands : (stream : List ℕ) → begins_whole stream ≡ true → Stands stream
stands stream h =
    let four : 4 ≤ length stream = grind (arith, nat_tests) in
    let apart : is_none (length_fault (length_field stream)) ≡ true = grind (arith, nat_tests) in
    record { four = four; fine = none_is (length_fault (length_field stream)) apart; within = grind (arith, nat_tests) }

pub begins : (stream : List ℕ) → Stands stream → begins_whole stream ≡ true
begins stream h =
    let fine = h.fine in
    grind (arith, nat_tests)

-- a length that is none's fault is that of a header at least
pub least_length : (n : ℕ) → length_fault n ≡ None → 20 ≤ n
least_length n h = grind (arith, nat_tests)

pub field_append : (a b : List ℕ) → 4 ≤ length a → length_field (a ++ b) ≡ length_field a
field_append a b h =
    let one : 1 < length a = omega arith in
    let two : 2 < length a = omega arith in
    let three : 3 < length a = omega arith in
    rw (get_or_append_left a b 0 1 one, get_or_append_left a b 0 2 two, get_or_append_left a b 0 3 three) refl

-- what stands whole stands whole whatever follows it
pub stands_append : (a b : List ℕ) → Stands a → Stands (a ++ b)
stands_append a b h =
    let field = field_append a b h.four in
    let long = length-append a b in
    record { four = omega arith; fine = rw field h.fine; within = omega arith }

pub begins_append : (a b : List ℕ) → begins_whole a ≡ true → begins_whole (a ++ b) ≡ true
begins_append a b h = begins (a ++ b) (stands_append a b (stands a h))

-- a message at the front is the first one, and the rest comes after it
pub first_of : (m s : List ℕ) → IsMessage m → first_message (m ++ s) ≡ Some m
first_of m s h =
    let whole = begins_append m s h.whole in
    let field = field_append m s (stands m h.whole).four ∙ h.exact in
    rw (whole, field, take-append_seam m s) refl

pub after_of : (m s : List ℕ) → IsMessage m → after_first (m ++ s) ≡ s
after_of m s h =
    let whole = begins_append m s h.whole in
    let field = field_append m s (stands m h.whole).four ∙ h.exact in
    rw (whole, field, drop-append_seam m s) refl

pub none_first : (s : List ℕ) → begins_whole s ≡ false → first_message s ≡ None
none_first s h = rw h refl

pub none_after : (s : List ℕ) → begins_whole s ≡ false → after_first s ≡ s
none_after s h = rw h refl

-- a whole message has no fault
pub fault_of_whole : (s : List ℕ) → begins_whole s ≡ true → fault_at s ≡ None
fault_of_whole s h =
    let four = (stands s h).four in
    let fine = (stands s h).fine in
    grind (arith, nat_tests)
