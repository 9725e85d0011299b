-- Which command a request is of (RFC 6733, sections 3 and 7.1.3), and the table of its list.
use Rattle.std.specs.Prelude.{ℕ, Bool, false, not, ◌==◌, ◌&&◌, ◌||◌, if◌then◌else◌, List, find, Option, Some, None, Result, Err}
use Rattle.std.specs.Option.{option_map_or, ok_or}
use Rattle.std.specs.Int.{w32}
use Rattle.dcc_octets.specs.Numbers.{number_in}
use Rattle.dcc_avp.specs.Spelling.{AvpView, has_code}
use Rattle.dcc_avp.specs.declared.codes.TheConstants.{CC_REQUEST_TYPE}
use Rattle.dcc_message.specs.HeaderView.{HeaderView}
use Rattle.dcc_message.specs.Headers.{is_request, is_error, is_command}
use Rattle.dcc_message.specs.declared.applications.TheConstants as applications
use Rattle.dcc_message.specs.declared.commands.TheConstants as commands
use Rattle.dcc_request.specs.declared.cause.Cause.{Cause}
use Rattle.dcc_request.specs.declared.cause.Cause.TheVariants as causes
use Rattle.dcc_request.specs.declared.command.Command.{Command}
use Rattle.dcc_request.specs.declared.command.Command.TheVariants.{CapabilitiesExchange, DeviceWatchdog, DisconnectPeer, CreditControl}
use Rattle.dcc_request.specs.declared.table.TheConstants.{UPDATE_TYPE, TERMINATION_TYPE, EVENT_TYPE, CAPABILITIES, WATCHDOG, DISCONNECT, SESSION, REPORT, EVENT}
use Rattle.dcc_request.specs.Tables.{Table}

-- the command that a header names together with its application, if it is served
abbrev pub served : HeaderView → Option Command
served header =
    if is_command commands.CAPABILITIES_EXCHANGE applications.BASE header then Some CapabilitiesExchange
    else if is_command commands.DEVICE_WATCHDOG applications.BASE header then Some DeviceWatchdog
    else if is_command commands.DISCONNECT_PEER applications.BASE header then Some DisconnectPeer
    else if is_command commands.CREDIT_CONTROL applications.CREDIT_CONTROL header then Some CreditControl
    else None

-- the command of a request, or the fault of its header: both R and E; the application; the command
abbrev pub command_of : HeaderView → Result Command Cause
command_of header =
    if is_request header && is_error header then Err causes.InvalidHeaderBits
    else if not (header.app == applications.BASE || header.app == applications.CREDIT_CONTROL) then Err causes.ApplicationUnsupported
    else ok_or (served header) causes.CommandUnsupported

-- a number was read, and it is that of an event
abbrev pub is_event_type : Option ℕ → Bool
is_event_type None = false
is_event_type (Some n) = n == EVENT_TYPE

-- the first CC-Request-Type has four octets with EVENT_REQUEST (RFC 8506, section 8.3)
abbrev pub is_event : List AvpView → Bool
is_event avps = option_map_or (λ (avp : AvpView). is_event_type (number_in w32 avp.value)) (find (has_code CC_REQUEST_TYPE) avps) false

-- a number was read, and it is that of an update or of a termination
abbrev pub is_report_type : Option ℕ → Bool
is_report_type None = false
is_report_type (Some n) = n == UPDATE_TYPE || n == TERMINATION_TYPE

-- the first CC-Request-Type has four octets with UPDATE_REQUEST or TERMINATION_REQUEST (RFC 8506, section 8.3)
abbrev pub is_report : List AvpView → Bool
is_report avps = option_map_or (λ (avp : AvpView). is_report_type (number_in w32 avp.value)) (find (has_code CC_REQUEST_TYPE) avps) false

-- the table of a message's list, which for a Credit-Control request depends on its type
unfoldable pub table_for : Command → List AvpView → Table
table_for CapabilitiesExchange avps = CAPABILITIES
table_for DeviceWatchdog avps = WATCHDOG
table_for DisconnectPeer avps = DISCONNECT
table_for CreditControl avps = if is_event avps then EVENT else if is_report avps then REPORT else SESSION
