-- What the options of a hole fill a column with is what the definition fills it with.
use Rattle.std.proofs.Common.{◌≡◌, ℕ, zero, suc, ◌-◌, ◌^◌, List, [], ◌∷◌, ◌++◌, length, replicate, codes, true, false, refl, ap}
use Rattle.std.proofs.Common.{arith, append_assoc, ℤ, pos, negsuc, unsigned_abs}
use Rattle.std.proofs.lemmas.Int.{ints}
use Rattle.std.proofs.lemmas.List.{append-nil}
use Rattle.std.specs.List.{repeat}
use Rattle.std.specs.Int.{is_negative}
use Rattle.std.specs.Char.{encode_utf8}
use Rattle.std.specs.Fmt.{decimal, signed_decimal, format_spec, padded_integral, padded, char_count, take_chars}
use Rattle.dcc_act.specs.declared.entry.EntryKind.{EntryKind}
use Rattle.dcc_act.specs.declared.entry.EntryKind.TheVariants.{TopUp, Debit, Refund, Charge}
use Rattle.dcc_ledger.specs.Columns.{padded_left, padded_right, with_sign}
use Rattle.dcc_ledger.specs.Ledger.{word_of}

blanks : (n : ℕ) → repeat {A = ℕ} n (32 ∷ []) ≡ replicate n 32
blanks zero = refl
blanks (suc n) = ap (λ (rest : List ℕ). 32 ∷ rest) (blanks n)

-- blanks, a sign and digits, with nothing behind them
filled : (width before after : ℕ) (sign digits : List ℕ) → before ≡ width - length (sign ++ digits) → after ≡ 0
    → repeat {A = ℕ} before (32 ∷ []) ++ sign ++ [] ++ [] ++ (digits ++ repeat {A = ℕ} after (32 ∷ []))
    ≡ padded_left width (sign ++ digits)
filled width before after sign digits e none = rw (e, none) (simp (blanks, append-nil, append_assoc))

-- digits behind blanks
pub digits_right : (width : ℕ) (digits : List ℕ)
    → padded_integral (format_spec 32 3 0 width (2 ^ 64 - 1)) false [] digits ≡ padded_left width digits
unfolding padded_integral char_count encode_utf8
digits_right width digits =
    let room = width - length digits - 0 - 0 in
    filled width room (room - room) [] digits (omega arith) (omega arith)

-- a sign right before its digits
minus_right : (width : ℕ) (digits : List ℕ)
    → padded_integral (format_spec 32 3 0 width (2 ^ 64 - 1)) true [] digits ≡ padded_left width (45 ∷ digits)
unfolding padded_integral char_count encode_utf8
minus_right width digits =
    let room = width - length digits - 1 - 0 in
    filled width room (room - room) (45 ∷ []) digits (omega arith) (omega arith)

-- either sign, where both are asked for
plus_shown : (width : ℕ) (digits : List ℕ)
    → padded_integral (format_spec 32 3 1 width (2 ^ 64 - 1)) false [] digits ≡ padded_left width (43 ∷ digits)
unfolding padded_integral char_count encode_utf8
plus_shown width digits =
    let room = width - length digits - 1 - 0 in
    filled width room (room - room) (43 ∷ []) digits (omega arith) (omega arith)

minus_shown : (width : ℕ) (digits : List ℕ)
    → padded_integral (format_spec 32 3 1 width (2 ^ 64 - 1)) true [] digits ≡ padded_left width (45 ∷ digits)
unfolding padded_integral char_count encode_utf8
minus_shown width digits =
    let room = width - length digits - 1 - 0 in
    filled width room (room - room) (45 ∷ []) digits (omega arith) (omega arith)

not_negative : (n : ℕ) → is_negative (pos n) ≡ false
not_negative n = grind (arith, ints)

pub signed_right : (width : ℕ) (z : ℤ)
    → padded_integral (format_spec 32 3 0 width (2 ^ 64 - 1)) (is_negative z) [] (decimal (unsigned_abs z))
    ≡ padded_left width (signed_decimal z)
signed_right width (pos n) = rw (not_negative n) (digits_right width (decimal n))
signed_right width (negsuc n) = minus_right width (decimal (suc n))

pub with_sign_right : (width : ℕ) (z : ℤ)
    → padded_integral (format_spec 32 3 1 width (2 ^ 64 - 1)) (is_negative z) [] (decimal (unsigned_abs z))
    ≡ padded_left width (with_sign z)
with_sign_right width (pos n) = rw (not_negative n) (plus_shown width (decimal n))
with_sign_right width (negsuc n) = minus_shown width (decimal (suc n))

-- words and dashes
pub word_left : (kind : EntryKind) → padded (format_spec 32 1 0 6 (2 ^ 64 - 1)) (word_of kind) ≡ padded_right 6 (word_of kind)
unfolding padded char_count take_chars encode_utf8
word_left TopUp = refl
word_left Debit = refl
word_left Refund = refl
word_left Charge = refl

pub dash_right : padded (format_spec 32 3 0 10 (2 ^ 64 - 1)) (codes "-") ≡ padded_left 10 (codes "-")
unfolding padded char_count take_chars encode_utf8
dash_right = refl
