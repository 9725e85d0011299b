-- The columns of the ledger, and the form of an amount.
use Rattle.std.specs.Prelude.{ℕ, suc, ◌-◌, List, ◌++◌, length, replicate, codes, ℤ, pos, negsuc}
use Rattle.std.specs.Fmt.{decimal}

-- a text behind blanks that fill the width; a wider text stands whole
abbrev pub padded_left : ℕ → List ℕ → List ℕ
padded_left width text = replicate (width - length text) 32 ++ text

-- a text with such blanks behind it
abbrev pub padded_right : ℕ → List ℕ → List ℕ
padded_right width text = text ++ replicate (width - length text) 32

-- a number with its sign, which is + for 0 too
abbrev pub with_sign : ℤ → List ℕ
with_sign (pos n) = codes "+" ++ decimal n
with_sign (negsuc n) = codes "-" ++ decimal (suc n)
