-- The lines of top-ups, written one after another.
use Rattle.std.proofs.Common.{◌≡◌, ℕ, ◌+◌, ◌<◌, ◌≤◌, List, ◌++◌, length, drop, slice_index_or, refl, sym, ap, ◌∙◌, append_assoc, add-one}
use Rattle.std.proofs.Math.Seq.{drop-cons}
use Rattle.std.proofs.lemmas.List.{drop_all, append-nil}
use Rattle.dcc_shard.specs.declared.answers.TopUpAnswer.{TopUpAnswer}
use Rattle.dcc_operator.specs.declared.commands.TopUpAsk.{TopUpAsk}
use Rattle.dcc_operator.specs.Many.{line_for, lines_for}

-- the line of the top-up at i, before the lines of the later ones
pub line_step : (asks : List TopUpAsk) (answers : List TopUpAnswer) (i : ℕ) (d : TopUpAsk) (e : TopUpAnswer) (text more all : List ℕ) → i < length asks → i < length answers
    → more ≡ text ++ line_for (slice_index_or asks i d) (slice_index_or answers i e)
    → text ++ lines_for (drop i asks) (drop i answers) ≡ all
    → more ++ lines_for (drop (i + 1) asks) (drop (i + 1) answers) ≡ all
line_step asks answers i d e text more all within inside is so_far =
    let one = line_for (slice_index_or asks i d) (slice_index_or answers i e) in
    let rest = lines_for (drop (i + 1) asks) (drop (i + 1) answers) in
    let cut : lines_for (drop i asks) (drop i answers) ≡ one ++ rest = rw (drop-cons asks i d within, drop-cons answers i e inside) (rw add-one refl) in
    ap (λ (front : List ℕ). front ++ rest) is ∙ (append_assoc text one rest ∙ (ap (λ (behind : List ℕ). text ++ behind) (sym cut) ∙ so_far))

-- no line is left
pub last_line : (asks : List TopUpAsk) (answers : List TopUpAnswer) (i : ℕ) (text all : List ℕ) → length asks ≤ i
    → text ++ lines_for (drop i asks) (drop i answers) ≡ all → text ≡ all
last_line asks answers i text all past so_far = sym (append-nil text) ∙ (ap (λ (rest : List ℕ). text ++ rest) (sym (rw (drop_all i asks past) refl)) ∙ so_far)
