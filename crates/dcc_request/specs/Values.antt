-- The values of AVPs as values of their kinds, or their refusals.
use Rattle.std.specs.Prelude.{ℕ, ◌&&◌, nat_le, if◌then◌else◌, List, find, Result, Ok, Err}
use Rattle.std.specs.Option.{ok_or}
use Rattle.std.specs.Int.{w32, w64}
use Rattle.dcc_octets.specs.Numbers.{number_in}
use Rattle.dcc_octets.specs.Names.{is_short}
use Rattle.dcc_avp.specs.Spelling.{AvpView, has_code}
use Rattle.dcc_request.specs.declared.cause.Cause.TheVariants.{MissingAvp, InvalidAvpLength, InvalidAvpValue}
use Rattle.dcc_request.specs.Refusals.{Refusal, refusal, ◌>>=◌}
use Rattle.dcc_request.specs.Checks.{missing_avp}

-- the first AVP of a code
abbrev pub required : List AvpView → ℕ → Result AvpView Refusal
required avps code = ok_or (find (has_code code) avps) (refusal MissingAvp (missing_avp code))

-- the 1 to 255 octets of a name
abbrev pub name_octets : AvpView → Result (List ℕ) Refusal
name_octets avp = if is_short avp.value then Ok avp.value else Err (refusal InvalidAvpLength avp)

-- a number of four octets
unfoldable pub number : AvpView → Result ℕ Refusal
number avp = ok_or (number_in w32 avp.value) (refusal InvalidAvpLength avp)

-- a number of eight octets
unfoldable pub long_number : AvpView → Result ℕ Refusal
long_number avp = ok_or (number_in w64 avp.value) (refusal InvalidAvpLength avp)

-- a number of four octets in a range
unfoldable pub number_within : AvpView → (low high : ℕ) → Result ℕ Refusal
number_within avp low high = do
  n ← number avp
  if nat_le low n && nat_le n high then Ok n else Err (refusal InvalidAvpValue avp)
