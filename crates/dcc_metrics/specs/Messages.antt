-- What is counted of a message: its command and its CC-Request-Type, or its Result-Code.
use Rattle.std.specs.Prelude.{ℕ, suc, zero, ◌+◌, ◌*◌, ◌/◌, ◌==◌, ◌&&◌, ◌||◌, nat_le, nat_lt, Bool, if◌then◌else◌, List, length, slice_index, position, unwrap_or, Option, Some, None}
use Rattle.dcc_octets.specs.Numbers.{u24_at, u32_at}
use Rattle.dcc_metrics.specs.declared.numbers.TheConstants.{HEADER, MOST_AVPS, VENDOR}
use Rattle.dcc_metrics.specs.declared.requests.RequestKind.{RequestKind}
use Rattle.dcc_metrics.specs.declared.requests.RequestKind.TheVariants.{Capabilities, Watchdog, Disconnect, Initial, Update, Termination, Event, Untyped, Other}
use Rattle.dcc_metrics.specs.declared.requests.TheConstants.{CC_REQUEST_TYPE, REQUEST}
use Rattle.dcc_metrics.specs.declared.results.TheConstants.{RESULTS}

-- an AVP of this code, without a vendor, begins at this index (RFC 6733, section 4.1)
abbrev pub has_number : ℕ → List ℕ → ℕ → Bool
has_number code message at = (u32_at message at == code) && nat_lt (slice_index message (at + 4)) VENDOR

-- the octets of the AVP that begins at this index, in whole words of four octets
abbrev pub step_at : List ℕ → ℕ → ℕ
step_at message at = (u24_at message (at + 5) + 3) / 4 * 4

-- the number in the first such AVP of at most so many AVPs from this index on
unfoldable pub number_from : ℕ → ℕ → List ℕ → ℕ → Option ℕ
number_from code zero message at = None
number_from code (suc more) message at =
    if nat_le (at + 12) (length message)
    then (if has_number code message at then Some (u32_at message (at + 8)) else number_from code more message (at + step_at message at))
    else None

abbrev pub number_of : ℕ → List ℕ → Option ℕ
number_of code message = number_from code MOST_AVPS message HEADER

-- the kind of a Credit-Control-Request, by its type (RFC 8506, section 8.3)
abbrev pub type_kind : ℕ → RequestKind
type_kind number =
    if number == 1 then Initial else (if number == 2 then Update else (if number == 3 then Termination else (if number == 4 then Event else Untyped)))

abbrev pub credit_kind : Option ℕ → RequestKind
credit_kind None = Untyped
credit_kind (Some number) = type_kind number

-- the kind of a request of this command (RFC 6733, section 3.1; RFC 8506, section 3)
abbrev pub command_kind : ℕ → List ℕ → RequestKind
command_kind command message =
    if command == 257 then Capabilities
    else (if command == 272 then credit_kind (number_of CC_REQUEST_TYPE message)
    else (if command == 280 then Watchdog else (if command == 282 then Disconnect else Other)))

-- the kind of a message, by its header: octet 4 has the Command Flags, and octets 5 to 7 have the command
abbrev pub kind_of : List ℕ → RequestKind
kind_of message =
    if nat_lt (length message) 8 || nat_lt (slice_index message 4) REQUEST then Other else command_kind (u24_at message 5) message

-- the index of a code among these; behind all of them for another code
abbrev pub index_in : List ℕ → ℕ → ℕ
index_in known code = unwrap_or (position (λ one. one == code) known) (length known)

-- the index of a Result-Code; behind all of them for each other code, and for none
abbrev pub index_of_result : Option ℕ → ℕ
index_of_result None = length RESULTS
index_of_result (Some code) = index_in RESULTS code
