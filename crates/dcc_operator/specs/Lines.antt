-- The top-ups of a text.
use Rattle.std.specs.Prelude.{◌≡◌, ℕ, ◌+◌, Bool, true, ◌==◌, if◌then◌else◌, List, [], ◌∷◌, Option, Some, None, Result, Ok, Err}
use Rattle.dcc_words.specs.Words.{◌>>=◌, lines_of, words_of, any_u64, moment, sub}
use Rattle.dcc_operator.specs.declared.commands.TopUpAsk.{TopUpAsk}
use Rattle.dcc_operator.specs.declared.lines.LineFault.{LineFault}
use Rattle.dcc_operator.specs.declared.lines.LineFault.TheVariants.{Line, Memory}

-- a top-up of these words, at this moment, if they have the form
unfoldable pub ask_at : Option ℕ → (s t a : List ℕ) → Option TopUpAsk
ask_at at s t a = do
  who ← sub s
  ticket ← any_u64 t
  amount ← any_u64 a
  when ← at
  Some (record { sub = who; ticket = ticket; amount = amount; moment = when })

-- `SUB TICKET AMOUNT`, at the moment of the command; or `SUB TICKET AMOUNT MOMENT`
unfoldable pub ask_of : ℕ → List (List ℕ) → Option TopUpAsk
ask_of now (s ∷ t ∷ a ∷ []) = ask_at (Some now) s t a
ask_of now (s ∷ t ∷ a ∷ m ∷ []) = ask_at (moment m) s t a
ask_of now _ = None

-- a line without a top-up: it is empty, or begins with #
abbrev pub is_remark : List ℕ → Bool
is_remark [] = true
is_remark (octet ∷ line) = octet == 35

-- the top-up of line n, before the top-ups of the later lines; n is the fault of a line that has neither form
abbrev pub then_later : ℕ → Option TopUpAsk → Result (List TopUpAsk) ℕ → Result (List TopUpAsk) ℕ
then_later n None later = Err n
then_later n (Some ask) (Ok asks) = Ok (ask ∷ asks)
then_later n (Some ask) (Err line) = Err line

-- the top-ups of lines of which the first has the number n, or the number of the first line with a fault
unfoldable pub asks_from : ℕ → ℕ → List (List ℕ) → Result (List TopUpAsk) ℕ
asks_from now n [] = Ok []
asks_from now n (line ∷ lines) =
    if is_remark line then asks_from now (n + 1) lines
    else then_later n (ask_of now (words_of line)) (asks_from now (n + 1) lines)

-- the top-ups of a text, or the number of its first line with a fault
unfoldable pub asks_of : ℕ → List ℕ → Result (List TopUpAsk) ℕ
asks_of now text = asks_from now 1 (lines_of text)

-- the faults of a text's reading: the line that the definition returns, or want of memory
abbrev pub IsLineFault : Result (List TopUpAsk) ℕ → LineFault → Type 0
IsLineFault asks (Line n) = asks ≡ Err n
IsLineFault asks Memory = Unit {0}
