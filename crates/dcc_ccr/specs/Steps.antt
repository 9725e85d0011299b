-- The steps by which the values of all lists are read.
use Rattle.std.specs.Prelude.{ℕ, List, find, Option, Some, None, Result, Ok}
use Rattle.dcc_avp.specs.Spelling.{AvpView, has_code}
use Rattle.dcc_request.specs.Refusals.{Refusal, ◌>>=◌}
use Rattle.dcc_request.specs.Values.{number, long_number}

-- the value of an AVP that may be there, or nothing
abbrev pub if_there : {A B : Type 0} → (A → Result B Refusal) → Option A → Result (Option B) Refusal
if_there read None = Ok None
if_there read (Some x) = do
  y ← read x
  Ok (Some y)

-- the number of the first AVP of a code, of four octets or of eight, if there is any
unfoldable pub number_of : List AvpView → (code : ℕ) → Result (Option ℕ) Refusal
number_of avps code = if_there number (find (has_code code) avps)

unfoldable pub long_number_of : List AvpView → (code : ℕ) → Result (Option ℕ) Refusal
long_number_of avps code = if_there long_number (find (has_code code) avps)
