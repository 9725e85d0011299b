-- A script, read line after line.
use Rattle.std.proofs.Common.{◌≡◌, ℕ, ◌+◌, ◌<◌, ◌≤◌, true, false, List, [], ◌∷◌, ◌++◌, length, map, drop, slice_index_or, Bor, Some, None}
use Rattle.std.proofs.Common.{Result, Ok, Err, add-one, refl, sym, ◌∙◌, ap, append_assoc}
use Rattle.std.proofs.Math.Seq.{drop-cons}
use Rattle.std.proofs.lemmas.List.{drop_all, append-nil}
use Rattle.dcc_engine.specs.declared.event.Event.{Event}
use Rattle.dcc_words.specs.Words.{lines_of, words_of}
use Rattle.dcc_replay.specs.Scripts.{event_of, is_remark, then_later, events_from, script_of}

-- events that were read, before what the later lines say
abbrev pub prepended : List Event → Result (List Event) ℕ → Result (List Event) ℕ
prepended read (Ok events) = Ok (read ++ events)
prepended read (Err line) = Err line

pub begun : (script : Result (List Event) ℕ) → script ≡ prepended [] script
begun (Ok events) = refl
begun (Err line) = refl

-- the line at i, and the later ones
first_of : (lines : List (Bor (List ℕ))) (i : ℕ) (d : Bor (List ℕ)) → i < length lines
    → map (λ l. l.now) (drop i lines) ≡ (slice_index_or lines i d).now ∷ map (λ l. l.now) (drop (i + 1) lines)
first_of lines i d within = rw (drop-cons lines i d within) (rw add-one refl)

from_remark : (n : ℕ) (line : List ℕ) (lines : List (List ℕ)) → is_remark line ≡ true
    → events_from n (line ∷ lines) ≡ events_from (n + 1) lines
unfolding events_from
from_remark n line lines remark = rw remark refl

from_event : (n : ℕ) (line : List ℕ) (lines : List (List ℕ)) → is_remark line ≡ false
    → events_from n (line ∷ lines) ≡ then_later n (event_of (words_of line)) (events_from (n + 1) lines)
unfolding events_from
from_event n line lines plain = rw plain refl

-- a line without an event
pub remark_step : (lines : List (Bor (List ℕ))) (i : ℕ) (d : Bor (List ℕ)) (read : List Event) (script : Result (List Event) ℕ)
    → script ≡ prepended read (events_from (i + 1) (map (λ l. l.now) (drop i lines)))
    → i < length lines → is_remark (slice_index_or lines i d).now ≡ true
    → script ≡ prepended read (events_from (i + 1 + 1) (map (λ l. l.now) (drop (i + 1) lines)))
remark_step lines i d read script so_far within remark =
    so_far ∙ rw (first_of lines i d within) (ap (prepended read) (from_remark (i + 1) _ (map (λ l. l.now) (drop (i + 1) lines)) remark))

later_step : (read : List Event) (n : ℕ) (event : Event) (later : Result (List Event) ℕ)
    → prepended read (then_later n (Some event) later) ≡ prepended (read ++ event ∷ []) later
later_step read n event (Ok events) = ap (λ (all : List Event). Ok all) (sym (append_assoc read (event ∷ []) events))
later_step read n event (Err line) = refl

-- a line with an event
pub event_step : (lines : List (Bor (List ℕ))) (i : ℕ) (d : Bor (List ℕ)) (read next : List Event) (event : Event)
    (script : Result (List Event) ℕ)
    → script ≡ prepended read (events_from (i + 1) (map (λ l. l.now) (drop i lines)))
    → i < length lines → is_remark (slice_index_or lines i d).now ≡ false → event_of (words_of (slice_index_or lines i d).now) ≡ Some event
    → next ≡ read ++ event ∷ []
    → script ≡ prepended next (events_from (i + 1 + 1) (map (λ l. l.now) (drop (i + 1) lines)))
event_step lines i d read next event script so_far within plain says more =
    let later = map (λ l. l.now) (drop (i + 1) lines) in
    so_far ∙ rw (first_of lines i d within) (rw (from_event (i + 1) (slice_index_or lines i d).now later plain)
    (rw says (rw more (later_step read (i + 1) event _))))

-- a line that has none of the forms
pub fault_step : (text : List ℕ) (lines : List (Bor (List ℕ))) (i : ℕ) (d : Bor (List ℕ)) (read : List Event)
    → map (λ l. l.now) lines ≡ lines_of text
    → events_from 1 (map (λ l. l.now) lines) ≡ prepended read (events_from (i + 1) (map (λ l. l.now) (drop i lines)))
    → i < length lines → is_remark (slice_index_or lines i d).now ≡ false → event_of (words_of (slice_index_or lines i d).now) ≡ None
    → script_of text ≡ Err (i + 1)
unfolding script_of
fault_step text lines i d read same so_far within plain says =
    let later = map (λ l. l.now) (drop (i + 1) lines) in
    rw (← same) (so_far ∙ rw (first_of lines i d within)
    (rw (from_event (i + 1) (slice_index_or lines i d).now later plain) (rw says refl)))

nothing_left : (n : ℕ) → events_from n [] ≡ Ok []
unfolding events_from
nothing_left n = refl

-- no line is left
pub last_step : (text : List ℕ) (lines : List (Bor (List ℕ))) (i : ℕ) (read : List Event)
    → map (λ l. l.now) lines ≡ lines_of text
    → events_from 1 (map (λ l. l.now) lines) ≡ prepended read (events_from (i + 1) (map (λ l. l.now) (drop i lines)))
    → length lines ≤ i → script_of text ≡ Ok read
unfolding script_of
last_step text lines i read same so_far past =
    rw (← same) (so_far ∙ rw (drop_all i lines past) (rw (nothing_left (i + 1)) (ap (λ (all : List Event). Ok all) (append-nil read))))
