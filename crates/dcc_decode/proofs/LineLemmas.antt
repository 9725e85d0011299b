-- Where the lines of a text end.
use Rattle.std.proofs.Common.{◌≡◌, ℕ, suc, ◌+◌, ◌<◌, ◌≤◌, ◌==◌, Bool, true, false, List, [], ◌∷◌, length, take, drop, Some, None, refl, sym, ◌∙◌, ap, arith}
use Rattle.std.specs.List.{position, position_or_len}
use Rattle.std.proofs.lemmas.List.Quantifiers.{position-Some}
use Rattle.std.proofs.lemmas.List.Sums.{position_or_len_is, prefix_len-le-length}
use Rattle.dcc_decode.specs.Lines.{onto_first, lines_of}

abbrev pub is_end : ℕ → Bool
is_end octet = octet == 10

pub end_some : (text : List ℕ) (end : ℕ) → position is_end text ≡ Some end → end ≡ position_or_len is_end text
end_some text end found =
    let is = position-Some is_end text end 0 found in
    let within : end ≤ length text = omega (arith, is.0) in
    sym (position_or_len_is is_end text end 0 within is.2 (λ _. is.1))

pub end_none : (text : List ℕ) → position is_end text ≡ None → length text ≡ position_or_len is_end text
end_none text none = grind (arith, prefix_len-le-length)

from_end : (x : ℕ) (text : List ℕ) → (x == 10) ≡ true → lines_of (x ∷ text) ≡ (x ∷ []) ∷ lines_of text
unfolding lines_of
from_end x text h = rw h refl

from_other : (x : ℕ) (text : List ℕ) → (x == 10) ≡ false → lines_of (x ∷ text) ≡ onto_first x (lines_of text)
unfolding lines_of
from_other x text h = rw h refl

end_here : (x : ℕ) (text : List ℕ) → (x == 10) ≡ true → position_or_len is_end (x ∷ text) ≡ 0
end_here x text h = rw h refl

end_later : (x : ℕ) (text : List ℕ) → (x == 10) ≡ false → position_or_len is_end (x ∷ text) ≡ 1 + position_or_len is_end text
end_later x text h = rw h refl

no_lines : lines_of [] ≡ []
unfolding lines_of
no_lines = refl

abbrev pub IsCut : List ℕ → ℕ → Type 0
IsCut text n = lines_of text ≡ take n text ∷ lines_of (drop n text)

later : (x : ℕ) (text : List ℕ) (n : ℕ) → lines_of (x ∷ text) ≡ onto_first x (lines_of text) → IsCut text n → IsCut (x ∷ text) (suc n)
later x text n onto cut = onto ∙ ap (onto_first x) cut

cut_here : (x : ℕ) (text : List ℕ) → (x == 10) ≡ true → IsCut (x ∷ text) (position_or_len is_end (x ∷ text) + 1)
cut_here x text h = rw (end_here x text h) (from_end x text h)

cut_last : (x : ℕ) → (x == 10) ≡ false → IsCut (x ∷ []) (position_or_len is_end (x ∷ []) + 1)
cut_last x h = rw (end_later x [] h) (from_other x [] h ∙ ap (onto_first x) no_lines ∙ ap (λ (ls : List (List ℕ)). (x ∷ []) ∷ ls) (sym no_lines))

cut_next : (x : ℕ) (text : List ℕ) → (x == 10) ≡ false → IsCut text (position_or_len is_end text + 1)
    → IsCut (x ∷ text) (position_or_len is_end (x ∷ text) + 1)
cut_next x text h cut =
    let e : position_or_len is_end (x ∷ text) + 1 ≡ suc (position_or_len is_end text + 1) =
    (let l : position_or_len is_end (x ∷ text) ≡ 1 + position_or_len is_end text = end_later x text h in omega (arith, l)) in
    rw e (later x text _ (from_other x text h) cut)

pub first_cut : (text : List ℕ) → 0 < length text → IsCut text (position_or_len is_end text + 1)
first_cut [] some = absurd (omega (arith, some))
first_cut (x ∷ []) some =
    elim (x == 10) as (λ b. (x == 10) ≡ b → IsCut (x ∷ []) (position_or_len is_end (x ∷ []) + 1))
    [ true ↦ λ h. cut_here x [] h | false ↦ λ h. cut_last x h ] refl
first_cut (x ∷ y ∷ text) some =
    let next = first_cut (y ∷ text) (omega arith) in
    elim (x == 10) as (λ b. (x == 10) ≡ b → IsCut (x ∷ y ∷ text) (position_or_len is_end (x ∷ y ∷ text) + 1))
    [ true ↦ λ h. cut_here x (y ∷ text) h | false ↦ λ h. cut_next x (y ∷ text) h next ] refl
