-- However a stream is cut into pieces, its messages are the same.
use Rattle.std.proofs.Common.{◌≡◌, ℕ, zero, suc, ◌+◌, ◌-◌, ◌≤◌, true, false, List, [], ◌∷◌, ◌++◌, length, take, drop, refl, sym, ap, ◌∙◌, arith, append_assoc, inl, inr}
use Rattle.std.specs.List.{concat}
use Rattle.std.proofs.lemmas.Bool.{cases_Bool}
use Rattle.std.proofs.lemmas.List.{length-drop, append-nil, take-append-le, drop-append-le}
use Rattle.dcc_message.specs.Streams.{length_field, begins_whole, messages_up_to, rest_up_to, messages, rest, messages_by_pieces, rest_by_pieces}
use Rattle.dcc_message.proofs.Cutting.{stands, begins_append, field_append, least_length}

-- how long a whole message is
record Sized (stream : List ℕ) : Type 0 where
  some : 20 ≤ length_field stream
  within : length_field stream ≤ length stream
  left : length (drop (length_field stream) stream) + length_field stream ≡ length stream

sized : (stream : List ℕ) → begins_whole stream ≡ true → Sized stream
sized stream h =
    let whole = stands stream h in
    let n = length_field stream in
    let some : 20 ≤ n = least_length n whole.fine in
    let within : n ≤ length stream = whole.within in
    let left : length (drop n stream) ≡ length stream - n = length-drop n stream in
    record { some = some; within = within; left = omega arith }

-- where there is nothing, no message begins
none_in : (stream : List ℕ) → length stream ≤ 0 → begins_whole stream ≡ false
none_in [] h = refl
none_in (x ∷ xs) h = absurd (omega arith)

none_from : (n : ℕ) (stream : List ℕ) → begins_whole stream ≡ false → messages_up_to n stream ≡ []
none_from zero stream h = refl
none_from (suc n) stream h = rw h refl

same_from : (n : ℕ) (stream : List ℕ) → begins_whole stream ≡ false → rest_up_to n stream ≡ stream
same_from zero stream h = refl
same_from (suc n) stream h = rw h refl

-- as many as there are octets are enough
enough : (n m : ℕ) (stream : List ℕ) → length stream ≤ n → length stream ≤ m → messages_up_to n stream ≡ messages_up_to m stream
enough zero m stream h k = sym (none_from m stream (none_in stream h))
enough (suc n) zero stream h k = none_from (suc n) stream (none_in stream k)
enough (suc n) (suc m) stream h k =
    elim (cases_Bool (begins_whole stream)) [
      | inl t ↦
          (let size = sized stream t in
          let others = drop (length_field stream) stream in
          rw t (ap (λ (ms : List (List ℕ)). take (length_field stream) stream ∷ ms) (enough n m others (omega arith) (omega arith))))
      | inr f ↦ rw f refl
    ]

enough_rest : (n m : ℕ) (stream : List ℕ) → length stream ≤ n → length stream ≤ m → rest_up_to n stream ≡ rest_up_to m stream
enough_rest zero m stream h k = sym (same_from m stream (none_in stream h))
enough_rest (suc n) zero stream h k = same_from (suc n) stream (none_in stream k)
enough_rest (suc n) (suc m) stream h k =
    elim (cases_Bool (begins_whole stream)) [
      | inl t ↦
          (let size = sized stream t in
          rw t (enough_rest n m (drop (length_field stream) stream) (omega arith) (omega arith)))
      | inr f ↦ rw f refl
    ]

-- the first message, and then those after it
up_to_first : (n : ℕ) (stream : List ℕ) → length stream ≤ n → begins_whole stream ≡ true →
    messages_up_to n stream ≡ take (length_field stream) stream ∷ messages_up_to (length (drop (length_field stream) stream)) (drop (length_field stream) stream)
up_to_first zero stream k h = let size = sized stream h in absurd (omega arith)
up_to_first (suc n) stream k h =
    let size = sized stream h in
    let others = drop (length_field stream) stream in
    rw h (ap (λ (ms : List (List ℕ)). take (length_field stream) stream ∷ ms) (enough n (length others) others (omega arith) (omega arith)))

rest_after_first : (n : ℕ) (stream : List ℕ) → length stream ≤ n → begins_whole stream ≡ true →
    rest_up_to n stream ≡ rest_up_to (length (drop (length_field stream) stream)) (drop (length_field stream) stream)
rest_after_first zero stream k h = let size = sized stream h in absurd (omega arith)
rest_after_first (suc n) stream k h =
    let size = sized stream h in
    let others = drop (length_field stream) stream in
    rw h (enough_rest n (length others) others (omega arith) (omega arith))

pub messages_first : (stream : List ℕ) → begins_whole stream ≡ true →
    messages stream ≡ take (length_field stream) stream ∷ messages (drop (length_field stream) stream)
unfolding messages
messages_first stream h = up_to_first (length stream) stream (omega arith) h

pub rest_first : (stream : List ℕ) → begins_whole stream ≡ true → rest stream ≡ rest (drop (length_field stream) stream)
unfolding rest
rest_first stream h = rest_after_first (length stream) stream (omega arith) h

pub messages_none : (stream : List ℕ) → begins_whole stream ≡ false → messages stream ≡ []
unfolding messages
messages_none stream h = none_from (length stream) stream h

pub rest_none : (stream : List ℕ) → begins_whole stream ≡ false → rest stream ≡ stream
unfolding rest
rest_none stream h = same_from (length stream) stream h

-- a message that stands whole stands so whatever follows
record Before (a b : List ℕ) : Type 0 where
  whole : begins_whole (a ++ b) ≡ true
  message : take (length_field (a ++ b)) (a ++ b) ≡ take (length_field a) a
  others : drop (length_field (a ++ b)) (a ++ b) ≡ drop (length_field a) a ++ b

before : (a b : List ℕ) → begins_whole a ≡ true → Before a b
before a b h =
    let whole = stands a h in
    let field = field_append a b whole.four in
    let within : length_field a ≤ length a = whole.within in
    record {
      whole = begins_append a b h;
      message = rw field (take-append-le (length_field a) a b within);
      others = rw field (drop-append-le (length_field a) a b within);
    }

-- what comes later changes no message before it
messages_with : (n : ℕ) (a b : List ℕ) → messages (a ++ b) ≡ messages_up_to n a ++ messages (rest_up_to n a ++ b)
messages_with zero a b = refl
messages_with (suc n) a b =
    elim (cases_Bool (begins_whole a)) [
      | inl t ↦
          (let at = before a b t in
          let others = drop (length_field a) a in
          rw t (messages_first (a ++ b) at.whole ∙ rw (at.message, at.others) (ap (λ (ms : List (List ℕ)). take (length_field a) a ∷ ms) (messages_with n others b))))
      | inr f ↦ rw f refl
    ]

rest_with : (n : ℕ) (a b : List ℕ) → rest (a ++ b) ≡ rest (rest_up_to n a ++ b)
rest_with zero a b = refl
rest_with (suc n) a b =
    elim (cases_Bool (begins_whole a)) [
      | inl t ↦
          (let at = before a b t in
          let others = drop (length_field a) a in
          rw t (rest_first (a ++ b) at.whole ∙ rw at.others (rest_with n others b)))
      | inr f ↦ rw f refl
    ]

pub messages-append : (a b : List ℕ) → messages (a ++ b) ≡ messages a ++ messages (rest a ++ b)
messages-append a b = (unfold messages rest in let here : messages (a ++ b) ≡ messages a ++ messages (rest a ++ b) = messages_with (length a) a b in here)

pub rest-append : (a b : List ℕ) → rest (a ++ b) ≡ rest (rest a ++ b)
rest-append a b = (unfold rest in let here : rest (a ++ b) ≡ rest (rest a ++ b) = rest_with (length a) a b in here)

pieces_with : (front : List ℕ) (pieces : List (List ℕ)) → messages front ++ messages_by_pieces (rest front) pieces ≡ messages (front ++ concat pieces)
pieces_with front [] = append-nil (messages front) ∙ ap messages (sym (append-nil front))
pieces_with front (piece ∷ pieces) =
    let longer = front ++ piece in
    sym (append_assoc (messages front) (messages (rest front ++ piece)) (messages_by_pieces (rest (rest front ++ piece)) pieces)) ∙
    ap (λ (ms : List (List ℕ)). ms ++ messages_by_pieces (rest (rest front ++ piece)) pieces) (sym (messages-append front piece)) ∙
    ap (λ (held : List ℕ). messages longer ++ messages_by_pieces held pieces) (sym (rest-append front piece)) ∙
    pieces_with longer pieces ∙
    ap messages (append_assoc front piece (concat pieces))

rests_with : (front : List ℕ) (pieces : List (List ℕ)) → rest_by_pieces (rest front) pieces ≡ rest (front ++ concat pieces)
rests_with front [] = ap rest (sym (append-nil front))
rests_with front (piece ∷ pieces) =
    ap (λ (held : List ℕ). rest_by_pieces held pieces) (sym (rest-append front piece)) ∙
    rests_with (front ++ piece) pieces ∙
    ap rest (append_assoc front piece (concat pieces))

pub messages_of_pieces : (pieces : List (List ℕ)) → messages_by_pieces [] pieces ≡ messages (concat pieces)
unfolding messages rest
messages_of_pieces pieces = pieces_with [] pieces

pub rest_of_pieces : (pieces : List (List ℕ)) → rest_by_pieces [] pieces ≡ rest (concat pieces)
unfolding rest
rest_of_pieces pieces = rests_with [] pieces
