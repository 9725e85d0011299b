-- What is left behind a stream's first message.
use Rattle.std.proofs.Common.{◌≡◌, ℕ, zero, suc, ◌≤◌, true, false, List, [], ◌∷◌, length, drop, refl, sym, arith, inl, inr, None, Some, is_none, Option}
use Rattle.std.proofs.lemmas.Bool.{cases_Bool}
use Rattle.std.proofs.lemmas.Bool.Decides.{nat_tests}
use Rattle.std.proofs.lemmas.List.{length-drop}
use Rattle.dcc_message.specs.Streams.{length_field, length_fault, begins_whole, rest_up_to, rest}

-- how long a whole message is
record Sized (stream : List ℕ) : Type 0 where
  some : 20 ≤ length_field stream
  within : length_field stream ≤ length stream

none_is : {X : Type 0} (o : Option X) → is_none o ≡ true → o ≡ None
none_is None h = refl
none_is (Some x) h = absurd cc

least : (n : ℕ) → length_fault n ≡ None → 20 ≤ n
least n h = grind (arith, nat_tests)

sized : (stream : List ℕ) → begins_whole stream ≡ true → Sized stream
sized stream h =
    let four : 4 ≤ length stream = grind (arith, nat_tests) in
    let apart : is_none (length_fault (length_field stream)) ≡ true = grind (arith, nat_tests) in
    record { some = least (length_field stream) (none_is (length_fault (length_field stream)) apart); within = grind (arith, nat_tests) }

none_in : (stream : List ℕ) → length stream ≤ 0 → begins_whole stream ≡ false
none_in [] h = refl
none_in (x ∷ xs) h = absurd (omega arith)

same_from : (n : ℕ) (stream : List ℕ) → begins_whole stream ≡ false → rest_up_to n stream ≡ stream
same_from zero stream h = refl
same_from (suc n) stream h = rw h refl

-- as many as there are octets are enough
enough : (n m : ℕ) (stream : List ℕ) → length stream ≤ n → length stream ≤ m → rest_up_to n stream ≡ rest_up_to m stream
enough zero m stream h k = sym (same_from m stream (none_in stream h))
enough (suc n) zero stream h k = same_from (suc n) stream (none_in stream k)
enough (suc n) (suc m) stream h k =
    elim (cases_Bool (begins_whole stream)) [
      | inl t ↦
          (let size = sized stream t in
          let left = length-drop (length_field stream) stream in
          rw t (enough n m (drop (length_field stream) stream) (omega arith) (omega arith)))
      | inr f ↦ rw f refl
    ]

after : (n : ℕ) (stream : List ℕ) → length stream ≤ n → begins_whole stream ≡ true →
    rest_up_to n stream ≡ rest_up_to (length (drop (length_field stream) stream)) (drop (length_field stream) stream)
after zero stream k h = let size = sized stream h in absurd (omega arith)
after (suc n) stream k h =
    let size = sized stream h in
    let others = drop (length_field stream) stream in
    let left = length-drop (length_field stream) stream in
    rw h (enough n (length others) others (omega arith) (omega arith))

pub rest_first : (stream : List ℕ) → begins_whole stream ≡ true → rest stream ≡ rest (drop (length_field stream) stream)
unfolding rest
rest_first stream h = after (length stream) stream (omega arith) h

pub rest_none : (stream : List ℕ) → begins_whole stream ≡ false → rest stream ≡ stream
unfolding rest
rest_none stream h = same_from (length stream) stream h
