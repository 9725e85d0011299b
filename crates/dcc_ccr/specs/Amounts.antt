-- Amounts of units, asked for and used (RFC 8506, sections 8.18, 8.19 and 8.21 to 8.26).
use Rattle.std.specs.Prelude.{ℕ, ◌+◌, Bool, ◌&&◌, nat_le, if◌then◌else◌, List, [], ◌∷◌, filter, find, Option, Some, None, Result, Ok, Err}
use Rattle.dcc_avp.specs.Spelling.{AvpView, has_code}
use Rattle.dcc_avp.specs.declared.codes.TheConstants.{REQUESTED_SERVICE_UNIT, USED_SERVICE_UNIT}
use Rattle.dcc_avp.specs.declared.codes.TheConstants.{CC_TIME, CC_TOTAL_OCTETS, CC_INPUT_OCTETS, CC_OUTPUT_OCTETS, CC_SERVICE_SPECIFIC_UNITS}
use Rattle.dcc_tariff.specs.declared.limits.TheConstants.{MAX_UNITS}
use Rattle.dcc_request.specs.declared.cause.Cause.TheVariants.{InvalidAvpValue}
use Rattle.dcc_request.specs.Refusals.{Refusal, refusal, ◌>>=◌}
use Rattle.dcc_request.specs.Layout.{message_list}
use Rattle.dcc_ccr.specs.Steps.{if_there, number_of, long_number_of}

-- an amount in each unit in which it may be counted
pub record AmountsView : Type 0 where
  pub octets : ℕ
  pub time : ℕ
  pub units : ℕ

-- the numbers in a Requested-Service-Unit or a Used-Service-Unit
pub record UnitsView : Type 0 where
  pub time : Option ℕ
  pub total : Option ℕ
  pub input : Option ℕ
  pub output : Option ℕ
  pub units : Option ℕ

-- the numbers of a list of units, their sizes checked in this order
unfoldable pub units_in : List AvpView → Result UnitsView Refusal
units_in avps = do
  time ← number_of avps CC_TIME
  total ← long_number_of avps CC_TOTAL_OCTETS
  input ← long_number_of avps CC_INPUT_OCTETS
  output ← long_number_of avps CC_OUTPUT_OCTETS
  units ← long_number_of avps CC_SERVICE_SPECIFIC_UNITS
  Ok (record { time = time; total = total; input = input; output = output; units = units })

-- a number that isn't there is 0
abbrev pub or_0 : Option ℕ → ℕ
or_0 (Some n) = n
or_0 None = 0

-- the octets in all, or else those in and out together
abbrev pub all_or : Option ℕ → ℕ → ℕ
all_or (Some total) parts = total
all_or None parts = parts

abbrev pub octets_of : UnitsView → ℕ
octets_of said = all_or said.total (or_0 said.input + or_0 said.output)

-- the amounts of an AVP are added to the amounts before
abbrev pub plus : AmountsView → UnitsView → AmountsView
plus sum said = record { octets = sum.octets + octets_of said; time = sum.time + or_0 said.time; units = sum.units + or_0 said.units }

abbrev pub nothing : AmountsView
nothing = record { octets = 0; time = 0; units = 0 }

-- in no unit more than 10^12
abbrev pub is_within : AmountsView → Bool
is_within amounts = nat_le amounts.octets MAX_UNITS && nat_le amounts.time MAX_UNITS && nat_le amounts.units MAX_UNITS

-- the amounts within that limit, or the refusal of the AVP with which they pass it
abbrev pub limited : AvpView → AmountsView → Result AmountsView Refusal
limited avp amounts = if is_within amounts then Ok amounts else Err (refusal InvalidAvpValue avp)

-- the amounts of an AVP are added to the amounts before: the sizes are checked first, and then the amounts
unfoldable pub added : AmountsView → AvpView → Result AmountsView Refusal
added sum avp = do
  avps ← message_list avp.value
  said ← units_in avps
  limited avp (plus sum said)

-- the amounts that a list asks for, if it asks for any: those of the first Requested-Service-Unit
unfoldable pub asked_in : List AvpView → Result (Option AmountsView) Refusal
asked_in avps = if_there (added nothing) (find (has_code REQUESTED_SERVICE_UNIT) avps)

-- the amounts so far, if there are any
abbrev pub or_nothing : Option AmountsView → AmountsView
or_nothing (Some amounts) = amounts
or_nothing None = nothing

-- each AVP is added to those before it, one after another
abbrev pub counted : Option AmountsView → List AvpView → Result (Option AmountsView) Refusal
counted sum [] = Ok sum
counted sum (avp ∷ avps) = do
  more ← added (or_nothing sum) avp
  counted (Some more) avps

-- the amounts that a list reports as used, if it reports any: the sum of all Used-Service-Units
unfoldable pub used_in : List AvpView → Result (Option AmountsView) Refusal
used_in avps = counted None (filter (has_code USED_SERVICE_UNIT) avps)
