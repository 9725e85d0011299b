-- The result in an answer's octets.
use Rattle.std.specs.Prelude.{ℕ, Bool, false, ◌==◌, List, drop, Option, None, Some, option_and_then, Result, Ok, Err}
use Rattle.std.specs.Int.{w32}
use Rattle.std.specs.List.{find}
use Rattle.dcc_octets.specs.Numbers.{number_in}
use Rattle.dcc_avp.specs.Spelling.{AvpView, has_code}
use Rattle.dcc_avp.specs.Reading.{FaultView, avps_of}
use Rattle.dcc_avp.specs.declared.codes.TheConstants.{RESULT_CODE}
use Rattle.dcc_message.specs.declared.length.TheConstants.{HEADER_LENGTH}
use Rattle.dcc_answer.specs.declared.protocol_error.TheConstants.{TOO_BUSY}

-- the number of the first Result-Code that is no vendor's, if it has four octets
abbrev pub result_in : List AvpView → Option ℕ
result_in avps = option_and_then (λ (avp : AvpView). number_in w32 avp.value) (find (has_code RESULT_CODE) avps)

-- there is a number, and it is this one
abbrev pub is_just : ℕ → Option ℕ → Bool
is_just wanted None = false
is_just wanted (Some n) = n == wanted

-- the AVPs say that the server is too busy
abbrev pub are_busy : List AvpView → Bool
are_busy avps = is_just TOO_BUSY (result_in avps)

-- the AVPs that were read say so; a list that can't be read says nothing
abbrev pub says_busy : Result (List AvpView) FaultView → Bool
says_busy (Ok avps) = are_busy avps
says_busy (Err fault) = false

-- a message is a busy answer: the list behind its header is read, and its Result-Code is DIAMETER_TOO_BUSY
unfoldable pub is_busy : List ℕ → Bool
is_busy octets = says_busy (avps_of (drop HEADER_LENGTH octets))
