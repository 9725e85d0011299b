-- A text of top-ups, read line after line.
use Rattle.std.proofs.Common.{◌≡◌, ℕ, ◌+◌, ◌<◌, ◌≤◌, true, false, List, [], ◌∷◌, ◌++◌, length, map, drop, slice_index_or, Bor, Some, None}
use Rattle.std.proofs.Common.{Result, Ok, Err, add-one, refl, sym, ◌∙◌, ap, append_assoc}
use Rattle.std.proofs.Math.Seq.{drop-cons}
use Rattle.std.proofs.lemmas.List.{drop_all, append-nil}
use Rattle.dcc_port.specs.declared.call.Ask.{Ask}
use Rattle.dcc_words.specs.Words.{lines_of, words_of}
use Rattle.dcc_port.specs.Lines.{ask_of_words, is_remark, then_later, asks_from, asks_of}

-- asks that were read, before what the later lines say
abbrev pub prepended : List Ask → Result (List Ask) ℕ → Result (List Ask) ℕ
prepended read (Ok asks) = Ok (read ++ asks)
prepended read (Err line) = Err line

pub begun : (asks : Result (List Ask) ℕ) → asks ≡ prepended [] asks
begun (Ok asks) = refl
begun (Err line) = refl

-- the line at i, and the later ones
first_of : (lines : List (Bor (List ℕ))) (i : ℕ) (d : Bor (List ℕ)) → i < length lines
    → map (λ l. l.now) (drop i lines) ≡ (slice_index_or lines i d).now ∷ map (λ l. l.now) (drop (i + 1) lines)
first_of lines i d within = rw (drop-cons lines i d within) (rw add-one refl)

from_remark : (n : ℕ) (line : List ℕ) (lines : List (List ℕ)) → is_remark line ≡ true
    → asks_from n (line ∷ lines) ≡ asks_from (n + 1) lines
unfolding asks_from
from_remark n line lines remark = rw remark refl

from_ask : (n : ℕ) (line : List ℕ) (lines : List (List ℕ)) → is_remark line ≡ false
    → asks_from n (line ∷ lines) ≡ then_later n (ask_of_words (words_of line)) (asks_from (n + 1) lines)
unfolding asks_from
from_ask n line lines plain = rw plain refl

-- a line without a top-up
pub remark_step : (lines : List (Bor (List ℕ))) (i : ℕ) (d : Bor (List ℕ)) (read : List Ask) (asks : Result (List Ask) ℕ)
    → asks ≡ prepended read (asks_from (i + 1) (map (λ l. l.now) (drop i lines)))
    → i < length lines → is_remark (slice_index_or lines i d).now ≡ true
    → asks ≡ prepended read (asks_from (i + 1 + 1) (map (λ l. l.now) (drop (i + 1) lines)))
remark_step lines i d read asks so_far within remark =
    so_far ∙ rw (first_of lines i d within) (ap (prepended read) (from_remark (i + 1) _ (map (λ l. l.now) (drop (i + 1) lines)) remark))

later_step : (read : List Ask) (n : ℕ) (ask : Ask) (later : Result (List Ask) ℕ)
    → prepended read (then_later n (Some ask) later) ≡ prepended (read ++ ask ∷ []) later
later_step read n ask (Ok asks) = ap (λ (all : List Ask). Ok all) (sym (append_assoc read (ask ∷ []) asks))
later_step read n ask (Err line) = refl

-- a line with a top-up
pub ask_step : (lines : List (Bor (List ℕ))) (i : ℕ) (d : Bor (List ℕ)) (read next : List Ask) (ask : Ask)
    (asks : Result (List Ask) ℕ)
    → asks ≡ prepended read (asks_from (i + 1) (map (λ l. l.now) (drop i lines)))
    → i < length lines → is_remark (slice_index_or lines i d).now ≡ false → ask_of_words (words_of (slice_index_or lines i d).now) ≡ Some ask
    → next ≡ read ++ ask ∷ []
    → asks ≡ prepended next (asks_from (i + 1 + 1) (map (λ l. l.now) (drop (i + 1) lines)))
ask_step lines i d read next ask asks so_far within plain says more =
    let later = map (λ l. l.now) (drop (i + 1) lines) in
    so_far ∙ rw (first_of lines i d within) (rw (from_ask (i + 1) (slice_index_or lines i d).now later plain)
    (rw says (rw more (later_step read (i + 1) ask _))))

-- a line that has none of the forms
pub fault_step : (text : List ℕ) (lines : List (Bor (List ℕ))) (i : ℕ) (d : Bor (List ℕ)) (read : List Ask)
    → map (λ l. l.now) lines ≡ lines_of text
    → asks_from 1 (map (λ l. l.now) lines) ≡ prepended read (asks_from (i + 1) (map (λ l. l.now) (drop i lines)))
    → i < length lines → is_remark (slice_index_or lines i d).now ≡ false → ask_of_words (words_of (slice_index_or lines i d).now) ≡ None
    → asks_of text ≡ Err (i + 1)
unfolding asks_of
fault_step text lines i d read same so_far within plain says =
    let later = map (λ l. l.now) (drop (i + 1) lines) in
    rw (← same) (so_far ∙ rw (first_of lines i d within)
    (rw (from_ask (i + 1) (slice_index_or lines i d).now later plain) (rw says refl)))

nothing_left : (n : ℕ) → asks_from n [] ≡ Ok []
unfolding asks_from
nothing_left n = refl

-- no line is left
pub last_step : (text : List ℕ) (lines : List (Bor (List ℕ))) (i : ℕ) (read : List Ask)
    → map (λ l. l.now) lines ≡ lines_of text
    → asks_from 1 (map (λ l. l.now) lines) ≡ prepended read (asks_from (i + 1) (map (λ l. l.now) (drop i lines)))
    → length lines ≤ i → asks_of text ≡ Ok read
unfolding asks_of
last_step text lines i read same so_far past =
    rw (← same) (so_far ∙ rw (drop_all i lines past) (rw (nothing_left (i + 1)) (ap (λ (all : List Ask). Ok all) (append-nil read))))
