-- The top-ups of a text, a line for each.
use Rattle.std.specs.Prelude.{ℕ, ◌+◌, ◌-◌, Bool, true, ◌==◌, if◌then◌else◌, is_some, List, [], ◌∷◌, slice_get, Option, Some, None, Result, Ok, Err}
use Rattle.dcc_words.specs.Words.{◌>>=◌, lines_of, words_of, any_u64, sub}
use Rattle.dcc_port.specs.declared.call.Ask.{Ask}
use Rattle.dcc_port.specs.declared.call.LineSlip.{LineSlip}
use Rattle.dcc_port.specs.declared.call.LineSlip.TheVariants as slips

-- a top-up of these words, if they have the form
unfoldable pub ask_at : (s t a : List ℕ) → Option Ask
ask_at s t a = do
  who ← sub s
  ticket ← any_u64 t
  amount ← any_u64 a
  Some (record { sub = who; ticket = ticket; amount = amount })

-- `SUB TICKET AMOUNT`
unfoldable pub ask_of_words : List (List ℕ) → Option Ask
ask_of_words (s ∷ t ∷ a ∷ []) = ask_at s t a
ask_of_words _ = None

-- a line without a top-up: it is empty, or begins with #
abbrev pub is_remark : List ℕ → Bool
is_remark [] = true
is_remark (octet ∷ line) = octet == 35

-- the top-up of line n, before the top-ups of the later lines; n is the fault of a line without the form
abbrev pub then_later : ℕ → Option Ask → Result (List Ask) ℕ → Result (List Ask) ℕ
then_later n None later = Err n
then_later n (Some ask) (Ok asks) = Ok (ask ∷ asks)
then_later n (Some ask) (Err line) = Err line

-- the top-ups of lines of which the first has the number n, or the number of the first line with a fault
unfoldable pub asks_from : ℕ → List (List ℕ) → Result (List Ask) ℕ
asks_from n [] = Ok []
asks_from n (line ∷ lines) =
    if is_remark line then asks_from (n + 1) lines
    else then_later n (ask_of_words (words_of line)) (asks_from (n + 1) lines)

-- the top-ups of a text, or the number of its first line with a fault
unfoldable pub asks_of : List ℕ → Result (List Ask) ℕ
asks_of text = asks_from 1 (lines_of text)

-- the first of these words that is not read, or else the word behind them
abbrev pub slip_at : (s t : List ℕ) → LineSlip
slip_at s t = if is_some (sub s) then (if is_some (any_u64 t) then slips.Amount else slips.Ticket) else slips.Subscriber

-- what is wrong with words that are no top-up
unfoldable pub slip_of_words : List (List ℕ) → LineSlip
slip_of_words (s ∷ t ∷ a ∷ []) = slip_at s t
slip_of_words _ = slips.Count

abbrev pub slip_of_line : Option (List ℕ) → LineSlip
slip_of_line None = slips.Count
slip_of_line (Some line) = slip_of_words (words_of line)

-- what is wrong with the line of a text with this number, from 1
unfoldable pub slip_in : List ℕ → ℕ → LineSlip
slip_in text number = slip_of_line (slice_get (lines_of text) (number - 1))
