-- What parsing says of a word that is a number.
use Rattle.std.proofs.Common.{◌≡◌, ℕ, ◌<◌, ◌≤◌, ◌^◌, true, false, List, length, Some, None, Result, Ok, Err, arith, rules, inl, inr}
use Rattle.std.specs.List.{list_all}
use Rattle.std.specs.Str.{IsUtf8}
use Rattle.std.specs.Char.{is_ascii_digit}
use Rattle.std.specs.Str.Parse.{digits_value, ParsesUnsigned}
use Rattle.std.specs.Result.{OkIff}
use Rattle.std.proofs.lemmas.Bool.{cases_lt}
use Rattle.std.proofs.lemmas.Str.Parse.{IsNumeralModel, numerals_by_value, parse_digits}
use Rattle.std.proofs.lemmas.Str.{IsUtf8-from_ascii}
use Rattle.std.proofs.lemmas.Fmt.{IsAscii-from_digits}
use Rattle.std.proofs.lemmas.Bool.Decides.{nat_tests}
use Rattle.dcc_words.specs.Words.{number}

-- a word of decimal digits
own : IsNumeralModel (λ word. list_all is_ascii_digit word ≡ true) (digits_value 10)
own = numerals_by_value (λ word. list_all is_ascii_digit word ≡ true) (search rules)

-- decimal digits are text
pub IsUtf8-from_digits : (word : List ℕ) → list_all is_ascii_digit word ≡ true → IsUtf8 word
IsUtf8-from_digits word digits = IsUtf8-from_ascii word (IsAscii-from_digits word (own.to word digits))

pub number-no_digits : (limit : ℕ) (word : List ℕ) → list_all is_ascii_digit word ≡ false → number limit word ≡ None
unfolding number
number-no_digits limit word fails = grind (arith, nat_tests)

number-within : (limit : ℕ) (word : List ℕ) → list_all is_ascii_digit word ≡ true → 0 < length word → digits_value 10 word ≤ limit
    → number limit word ≡ Some (digits_value 10 word)
unfolding number
number-within limit word digits some low = grind (arith, nat_tests)

number-above : (limit : ℕ) (word : List ℕ) → limit < digits_value 10 word → number limit word ≡ None
unfolding number
number-above limit word high = grind (arith, nat_tests)

number-empty : (limit : ℕ) (word : List ℕ) → length word ≤ 0 → number limit word ≡ None
unfolding number
number-empty limit word none = grind (arith, nat_tests)

-- what parsing gives of decimal digits
digits_parse : {E : Type 0} (word : List ℕ) (r : Result ℕ E) → list_all is_ascii_digit word ≡ true → ParsesUnsigned 64 10 word r
    → OkIff r ((0 < length word) × (digits_value 10 word < 2 ^ 64)) (digits_value 10 word)
digits_parse word r digits parsed = parse_digits own 64 word r parsed digits

pub number-parsed : {E : Type 0} (limit : ℕ) (word : List ℕ) (r : Result ℕ E) (n : ℕ) → list_all is_ascii_digit word ≡ true
    → ParsesUnsigned 64 10 word r
    → r ≡ Ok n → n ≤ limit → number limit word ≡ Some n
number-parsed limit word r n digits parsed given low =
    let facts = rw given at (digits_parse word r digits parsed) in
    rw facts.1 (number-within limit word digits facts.0.0 (omega (arith, facts.1)))

pub number-too_great : {E : Type 0} (limit : ℕ) (word : List ℕ) (r : Result ℕ E) (n : ℕ) → list_all is_ascii_digit word ≡ true
    → ParsesUnsigned 64 10 word r
    → r ≡ Ok n → limit < n → number limit word ≡ None
number-too_great limit word r n digits parsed given high =
    let facts = rw given at (digits_parse word r digits parsed) in
    number-above limit word (omega (arith, facts.1))

pub number-unparsed : {E : Type 0} (limit : ℕ) (word : List ℕ) (r : Result ℕ E) (e : E) → list_all is_ascii_digit word ≡ true
    → limit < 2 ^ 64
    → ParsesUnsigned 64 10 word r → r ≡ Err e → number limit word ≡ None
number-unparsed limit word r e digits small parsed refused =
    let never = rw refused at (digits_parse word r digits parsed) in
    elim (cases_lt 0 (length word)) [
      | inr empty ↦ number-empty limit word empty
      | inl some ↦ elim (cases_lt (digits_value 10 word) (2 ^ 64)) [
        | inr high ↦ number-above limit word (omega arith)
        | inl low ↦ absurd (never (some, low))
      ]
    ]
