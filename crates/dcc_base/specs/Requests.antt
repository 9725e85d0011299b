-- The effects of accepted requests of the base protocol on their peers, and the refusals of the others (RFC 6733, sections 5.3 to 5.5).
use Rattle.std.specs.Prelude.{List, Result, Ok, Err}
use Rattle.dcc_avp.specs.Spelling.{AvpView}
use Rattle.dcc_avp.specs.Reading.{FaultView}
use Rattle.dcc_avp.specs.declared.codes.TheConstants.{DISCONNECT_CAUSE}
use Rattle.dcc_message.specs.HeaderView.{HeaderView}
use Rattle.dcc_request.specs.declared.cause.Cause.{Cause}
use Rattle.dcc_request.specs.declared.command.Command.{Command}
use Rattle.dcc_request.specs.declared.command.Command.TheVariants.{CapabilitiesExchange, DeviceWatchdog, DisconnectPeer, CreditControl}
use Rattle.dcc_request.specs.Refusals.{Refusal, bare, ◌>>=◌}
use Rattle.dcc_request.specs.Layout.{list_or_refusal}
use Rattle.dcc_request.specs.Commands.{command_of}
use Rattle.dcc_request.specs.Checks.{checked}
use Rattle.dcc_request.specs.Values.{required, number_within}
use Rattle.dcc_base.specs.declared.effect.Effect.{Effect}
use Rattle.dcc_base.specs.declared.effect.Effect.TheVariants.{Opens, Stays, Closes}
use Rattle.dcc_base.specs.declared.requests.TheConstants.{LAST_DISCONNECT_CAUSE}
use Rattle.dcc_base.specs.Capabilities.{host_of}

-- the AVPs behind a message's header, or the fault of a list that can't be read
abbrev pub Read : Type 0
Read = Result (List AvpView) FaultView

-- a request to exchange capabilities (section 5.3)
unfoldable pub capabilities : List AvpView → Result Effect Refusal
capabilities avps = do
  groups ← checked CapabilitiesExchange avps
  host ← host_of avps groups
  Ok (Opens host)

-- a request for a sign of life of the connection (section 5.5)
unfoldable pub watchdog : List AvpView → Result Effect Refusal
watchdog avps = do
  groups ← checked DeviceWatchdog avps
  Ok Stays

-- a request to end the connection, for one of the known causes (sections 5.4 and 5.4.3)
unfoldable pub disconnect : List AvpView → Result Effect Refusal
disconnect avps = do
  groups ← checked DisconnectPeer avps
  avp ← required avps DISCONNECT_CAUSE
  cause ← number_within avp 0 LAST_DISCONNECT_CAUSE
  Ok Closes

-- A request of a command of the base protocol. A Credit-Control request is none: nothing in it is checked, and it has no effect.
abbrev pub accepted : Command → List AvpView → Result Effect Refusal
accepted CapabilitiesExchange avps = capabilities avps
accepted DeviceWatchdog avps = watchdog avps
accepted DisconnectPeer avps = disconnect avps
accepted CreditControl avps = Ok Stays

-- the command that a header names, or the refusal of the header
abbrev pub named_by : Result Command Cause → Result Command Refusal
named_by (Ok command) = Ok command
named_by (Err cause) = Err (bare cause)

abbrev pub named : HeaderView → Result Command Refusal
named header = named_by (command_of header)

-- a request: the header is judged first, then the layout, then all else
unfoldable pub judged : HeaderView → Read → Result Effect Refusal
judged header read = do
  command ← named header
  avps ← list_or_refusal read
  accepted command avps
