-- What a framer holds: whole messages, and then less than one.
use Rattle.std.proofs.Common.{◌≡◌, ℕ, ◌≤◌, List, [], ◌∷◌, ◌++◌, length, take, drop, refl, sym, ap, subst, ◌∙◌, arith, Some, None, append_assoc, Vec}
use Rattle.std.proofs.lemmas.List.{length-take-le, take-append-drop}
use Rattle.std.proofs.Math.Seq.{take-append-add}
use Rattle.dcc_message.specs.Streams.{length_field, fault_at, first_message, after_first}
use Rattle.dcc_message.specs.inner.Frames.{joined, IsMessage, AreMessages, IsHeld, Completes}
use Rattle.dcc_message.proofs.Cutting.{Stands, stands, begins, begins_append, field_append, least_length, first_of, after_of, none_first, none_after, fault_of_whole}

-- the message in front, what stays after it, and that no fault is in its place
pub record Front (stream message others : List ℕ) : Type 0 where
  pub first : first_message stream ≡ Some message
  pub after : after_first stream ≡ others
  pub fine : fault_at stream ≡ None

front_of : (message others stream : List ℕ) → IsMessage message → message ++ others ≡ stream → Front stream message others
front_of message others stream h e =
    let at : Front (message ++ others) message others = record { first = first_of message others h; after = after_of message others h; fine = fault_of_whole (message ++ others) (begins_append message others h.whole) } in
    let P : List ℕ → Type 0 = λ s. Front s message others in
    subst P e at

pub front_of_held : {Z : Type 0} (ready : List (Vec ℕ Z)) (message : Vec ℕ Z) (more : List (Vec ℕ Z)) (begun stream : List ℕ) →
    IsHeld ready begun → ready ≡ message ∷ more → joined ready ++ begun ≡ stream → Front stream message.items (joined more ++ begun)
front_of_held {Z} ready message more begun stream h e v =
    let P : List (Vec ℕ Z) → Type 0 = λ xs. AreMessages xs in
    let all = subst P e h.messages in
    let f : List (Vec ℕ Z) → List ℕ = λ xs. joined xs ++ begun in
    front_of message.items (joined more ++ begun) stream all.0 (sym (append_assoc message.items (joined more) begun) ∙ sym (ap f e) ∙ v)

-- with no message ready the stream is what has begun
pub record Nothing (stream begun : List ℕ) : Type 0 where
  pub is : stream ≡ begun
  pub first : first_message stream ≡ None
  pub after : after_first stream ≡ begun

pub nothing_held : {Z : Type 0} (ready : List (Vec ℕ Z)) (begun stream : List ℕ) →
    IsHeld ready begun → ready ≡ [] → joined ready ++ begun ≡ stream → Nothing stream begun
nothing_held {Z} ready begun stream h e v =
    let f : List (Vec ℕ Z) → List ℕ = λ xs. joined xs ++ begun in
    let is : begun ≡ stream = sym (ap f e) ∙ v in
    let at : Nothing begun begun = record { is = refl; first = none_first begun h.less; after = none_after begun h.less } in
    let P : List ℕ → Type 0 = λ s. Nothing s begun in
    subst P is at

-- one more message at the end, and then others
messages_append : {Z : Type 0} (xs ys : List (Vec ℕ Z)) → AreMessages xs → AreMessages ys → AreMessages (xs ++ ys)
messages_append [] ys h k = k
messages_append (x ∷ xs) ys h k = (h.0, messages_append xs ys h.1 k)

-- the octets that a piece completes are a message
pub completed : (begun piece : List ℕ) (count : ℕ) → Completes begun piece count → IsMessage (begun ++ take count piece)
completed begun piece count h =
    let all = begun ++ piece in
    let n = length_field all in
    let whole : Stands all = stands all h.whole in
    let least = least_length n whole.fine in
    let front : take n all ≡ begun ++ take count piece = rw (sym h.exact) (take-append-add begun piece count) in
    let parts : take n all ++ drop n all ≡ all = take-append-drop n all in
    let long : length (take n all) ≡ n = length-take-le n all whole.within in
    let four : 4 ≤ length (take n all) = omega arith in
    let field : n ≡ length_field (take n all) = ap length_field (sym parts) ∙ field_append (take n all) (drop n all) four in
    let message : IsMessage (take n all) = record {
      whole = begins (take n all) (record { four = four; fine = rw (sym field) whole.fine; within = omega arith });
      exact = sym field ∙ sym long;
    } in
    subst IsMessage front message

pub held_more : {Z : Type 0} (ready later : List (Vec ℕ Z)) (message : Vec ℕ Z) (begun : List ℕ) →
    AreMessages ready → IsMessage message.items → IsHeld later begun → IsHeld ((ready ++ message ∷ []) ++ later) begun
held_more ready later message begun h m k =
    record { messages = messages_append (ready ++ message ∷ []) later (messages_append ready (message ∷ []) h (m, tt)) k.messages; less = k.less }
