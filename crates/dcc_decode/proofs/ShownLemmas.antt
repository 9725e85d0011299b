-- Lines that are shown one after another.
use Rattle.std.proofs.Common.{◌≡◌, ℕ, List, [], ◌∷◌, ◌++◌, length, arith, refl, sym, ◌∙◌, ap, subst, append_assoc}
use Rattle.std.proofs.lemmas.List.{append-nil}
use Rattle.dcc_decode.specs.Lines.{lines_of, message_of}
use Rattle.dcc_decode.specs.Decodings.{IsShown, AreShown}

-- what was written is a beginning of what is written of all lines, whatever is written of the lines that are left
abbrev pub IsSoFar : (all left : List (List ℕ)) → (written : List ℕ) → Type 0
IsSoFar all left written = (more : List ℕ) → AreShown left more → AreShown all (written ++ more)

pub shown_step : (all left next : List (List ℕ)) (line piece written new : List ℕ)
    → IsSoFar all left written → left ≡ line ∷ next → new ≡ written ++ piece → IsShown line (message_of line) piece
    → IsSoFar all next new
shown_step all left next line piece written new so_far is more_is shown =
    λ more rest.
    let given : AreShown (line ∷ next) (piece ++ more) = (piece, more, refl, shown, rest) in
    let lines : List (List ℕ) → Type 0 = λ ls. AreShown ls (piece ++ more) in
    let text : List ℕ → Type 0 = λ t. AreShown all t in
    subst text (sym (append_assoc written piece more) ∙ ap (λ t. t ++ more) (sym more_is)) (so_far (piece ++ more) (subst lines (sym is) given))

no_lines : lines_of [] ≡ []
unfolding lines_of
no_lines = refl

nothing : (rest : List ℕ) → length rest ≡ 0 → rest ≡ []
nothing [] none = refl
nothing (octet ∷ rest) none = absurd (omega (arith, none))

pub all_shown : (all : List (List ℕ)) (rest written : List ℕ) → IsSoFar all (lines_of rest) written → length rest ≡ 0 → AreShown all written
all_shown all rest written so_far none =
    let lines : List (List ℕ) → Type 0 = λ ls. AreShown ls [] in
    let text : List ℕ → Type 0 = λ t. AreShown all t in
    let is : lines_of rest ≡ [] = ap lines_of (nothing rest none) ∙ no_lines in
    subst text (append-nil written) (so_far [] (subst lines (sym is) refl))
