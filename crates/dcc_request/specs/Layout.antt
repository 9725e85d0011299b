-- Lists of AVPs that can't be read, and the AVPs that their refusals show (RFC 6733, section 7.1.5).
use Rattle.std.specs.Prelude.{ℕ, if◌then◌else◌, List, [], Option, Some, None, option_map, Result, Ok, Err, replicate}
use Rattle.dcc_avp.specs.Spelling.{AvpView, plain, has_vendor}
use Rattle.dcc_avp.specs.Dictionary.{format_of, least_octets}
use Rattle.dcc_avp.specs.Reading.{FaultView, Short, LengthBelowHeader, LengthPastEnd, avps_of}
use Rattle.dcc_avp.specs.declared.dictionary.DataFormat.{DataFormat}
use Rattle.dcc_avp.specs.declared.fault.AvpFault.{AvpFault}
use Rattle.dcc_avp.specs.declared.fault.AvpFault.TheVariants as faults
use Rattle.dcc_request.specs.declared.cause.Cause.TheVariants.{InvalidAvpLength}
use Rattle.dcc_request.specs.declared.stop.Stop.{Stop}
use Rattle.dcc_request.specs.declared.stop.Stop.TheVariants.{Refused, Memory}
use Rattle.dcc_request.specs.Refusals.{Refusal, refusal}

-- the least data of a format in zeros
abbrev pub zeros_of : Option DataFormat → List ℕ
zeros_of None = []
zeros_of (Some format) = replicate (least_octets format) 0

-- the least data of a code in zeros; empty if the dictionary doesn't have the code
abbrev pub least_data : ℕ → List ℕ
least_data code = zeros_of (format_of code)

-- The AVP that stands for an AVP with an invalid length: its code and its flags but V, and the least data of its format. With V
-- it has no data, since its code is then a vendor's.
abbrev pub stand_in : (code flags : ℕ) → AvpView
stand_in code flags = plain code flags (if has_vendor flags then [] else least_data code)

-- the AVP that stands for the AVP of a fault; without data if too few octets are left for a header
abbrev pub broken_avp : FaultView → AvpView
broken_avp (Short code flags) = plain code flags []
broken_avp (LengthBelowHeader code flags) = stand_in code flags
broken_avp (LengthPastEnd code flags) = stand_in code flags

-- the refusal of a list with this fault
abbrev pub unread : FaultView → Refusal
unread fault = refusal InvalidAvpLength (broken_avp fault)

-- the fault of layout that reading returns, if it is a fault of layout
abbrev pub layout_fault : AvpFault → Option FaultView
layout_fault (faults.Short code flags) = Some (Short code flags)
layout_fault (faults.LengthBelowHeader code flags) = Some (LengthBelowHeader code flags)
layout_fault (faults.LengthPastEnd code flags) = Some (LengthPastEnd code flags)
layout_fault faults.WrongSize = None
layout_fault faults.Memory = None

-- the end of reading: the refusal, or want of memory
abbrev pub stop_from : Option Refusal → Stop
stop_from None = Memory
stop_from (Some refusal) = Refused refusal

abbrev pub stop_at : AvpFault → Stop
stop_at fault = stop_from (option_map unread (layout_fault fault))

-- the AVPs that were read, or the refusal of the fault
abbrev pub list_or_refusal : Result (List AvpView) FaultView → Result (List AvpView) Refusal
list_or_refusal (Ok avps) = Ok avps
list_or_refusal (Err fault) = Err (unread fault)

-- the AVPs of the octets behind a message's header, or their refusal
unfoldable pub message_list : List ℕ → Result (List AvpView) Refusal
message_list octets = list_or_refusal (avps_of octets)
