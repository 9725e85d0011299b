-- The next message of a stream, or its fault.
use Rattle.std.proofs.Common.{◌≡◌, ℕ, true, false, List, [], ◌∷◌, take, drop, refl, sym, ap, ◌∙◌, inl, inr, None, Some, Option, Result, Ok, Err}
use Rattle.std.specs.Option.{option_map, unwrap_or}
use Rattle.std.proofs.lemmas.Bool.{cases_Bool}
use Rattle.dcc_message.specs.HeaderView.{HeaderView}
use Rattle.dcc_message.specs.Headers.{header_of}
use Rattle.dcc_message.specs.Streams.{length_field, fault_at, begins_whole, first_message, after_first, messages, rest}
use Rattle.dcc_message.specs.declared.length.LengthFault.{LengthFault}
use Rattle.dcc_message.specs.declared.header.HeaderFault.{HeaderFault}
use Rattle.dcc_message.specs.declared.header.HeaderFault.TheVariants.{Length}
use Rattle.dcc_connect.specs.Streams.{fault_of_message, fault_in_header, before_fault, first_fault, heard, stream_fault}
use Rattle.std.specs.Result.{IsErrAnd}
use Rattle.dcc_connect.specs.declared.fault.ConnectFault.{ConnectFault}
use Rattle.dcc_connect.specs.declared.fault.ConnectFault.TheVariants.{Header}
use Rattle.dcc_connect.specs.inner.Steps.{StreamLaws, Nexts}
use Rattle.std.proofs.lemmas.Bool.Decides.{nat_tests}
use Rattle.std.proofs.Common.{arith}

-- what is there has its message in front
record Stands (s m : List ℕ) : Type 0 where
  whole : begins_whole s ≡ true
  front : m ≡ take (length_field s) s

stands : (s m : List ℕ) → first_message s ≡ Some m → Stands s m
stands s m h = elim (cases_Bool (begins_whole s)) [
  | inl t ↦ (let e : Some (take (length_field s) s) ≡ Some m = rw t at h in record { whole = t; front = sym (ap (λ o. unwrap_or o []) e) })
  | inr f ↦ (let e : None ≡ Some m = rw f at h in absurd cc)
]

none_stands : (s : List ℕ) → first_message s ≡ None → begins_whole s ≡ false
none_stands s h = elim (cases_Bool (begins_whole s)) [
  | inl t ↦ (let e : Some (take (length_field s) s) ≡ None = rw t at h in absurd cc)
  | inr f ↦ f
]

none_with : (s : List ℕ) (f : LengthFault) → fault_at s ≡ Some f → begins_whole s ≡ false
none_with s f h = elim (cases_Bool (begins_whole s)) [
  | inl t ↦ absurd (grind (arith, nat_tests))
  | inr f ↦ f
]

after_whole : (s : List ℕ) → begins_whole s ≡ true → after_first s ≡ drop (length_field s) s
after_whole s h = rw h refl

after_none : (s : List ℕ) → begins_whole s ≡ false → after_first s ≡ s
after_none s h = rw h refl

-- a bad length stands in front
pub next_fault : StreamLaws → (s : List ℕ) (f : LengthFault) → fault_at s ≡ Some f → (heard s ≡ []) × (stream_fault s ≡ Some (Length f))
next_fault laws s f h =
    let none = none_with s f h in
    let empty = laws.none s none in
    let left = laws.none_rest s none in
    (ap before_fault empty, ap (λ ms. first_fault ms (option_map Length (fault_at (rest s)))) empty ∙ ap (λ r. option_map Length (fault_at r)) left ∙ ap (option_map Length) h)

no_fault : (o : Option LengthFault) → ((f : LengthFault) → o ≡ Some f → ⊥) → o ≡ None
no_fault None h = refl
no_fault (Some f) h = absurd (h f refl)

-- less than a message stands in front
pub next_none : StreamLaws → (s t : List ℕ) → first_message s ≡ None → t ≡ after_first s → ((f : LengthFault) → fault_at s ≡ Some f → ⊥)
    → (messages s ≡ []) × (rest s ≡ s) × (fault_at s ≡ None) × (t ≡ s)
next_none laws s t h e never =
    let none = none_stands s h in
    (laws.none s none, laws.none_rest s none, no_fault (fault_at s) never, e ∙ after_none s none)

-- a message does
next_in : StreamLaws → (s t m : List ℕ) → first_message s ≡ Some m → t ≡ after_first s → (messages s ≡ m ∷ messages t) × (rest s ≡ rest t)
next_in laws s t m h e =
    let whole = stands s m h in
    let is = e ∙ after_whole s whole.whole in (
      laws.first s whole.whole ∙ ap (λ x. x ∷ messages (drop (length_field s) s)) (sym whole.front) ∙ ap (λ r. m ∷ messages r) (sym is),
      laws.first_rest s whole.whole ∙ ap rest (sym is),
    )

-- its header isn't read
pub next_unread : StreamLaws → (s t m : List ℕ) (f : HeaderFault) → first_message s ≡ Some m → t ≡ after_first s → header_of m ≡ Err f
    → (heard s ≡ []) × (stream_fault s ≡ Some f)
next_unread laws s t m f h e bad =
    let is = (next_in laws s t m h e).0 in
    let fault : fault_of_message m ≡ Some f = ap fault_in_header bad in
    let empty : before_fault (m ∷ messages t) ≡ [] = rw (before_fault, fault) refl in
    let told : first_fault (m ∷ messages t) (option_map Length (fault_at (rest s))) ≡ Some f = rw (first_fault, fault) refl in
    (ap before_fault is ∙ empty, ap (λ ms. first_fault ms (option_map Length (fault_at (rest s)))) is ∙ told)

-- and is
pub next_read : StreamLaws → (s t m : List ℕ) (v : HeaderView) → first_message s ≡ Some m → t ≡ after_first s → header_of m ≡ Ok v
    → (fault_of_message m ≡ None) × (messages s ≡ m ∷ messages t) × (rest s ≡ rest t)
next_read laws s t m v h e good = let is = next_in laws s t m h e in (ap fault_in_header good, is.0, is.1)

-- an error that was made of a fault
pub nexts_err : (r : Result (Option (List ℕ)) ConnectFault) (f : HeaderFault) (s t : List ℕ) → IsErrAnd r (λ e. e ≡ Header f)
    → (heard s ≡ []) × (stream_fault s ≡ Some f) → Nexts r s t
nexts_err (Ok x) f s t h k = absurd h
nexts_err (Err e) f s t h k = rw h k
