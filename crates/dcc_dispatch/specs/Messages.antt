-- The kinds of messages to a peer, by their octets.
use Rattle.std.specs.Prelude.{ℕ, Bool, false, ◌&&◌, if◌then◌else◌, List, [], drop, Option, Some, None, Result, Ok, Err}
use Rattle.dcc_avp.specs.Spelling.{AvpView}
use Rattle.dcc_avp.specs.Reading.{FaultView, avps_of}
use Rattle.dcc_message.specs.HeaderView.{HeaderView}
use Rattle.dcc_message.specs.Headers.{header_of, is_request}
use Rattle.dcc_message.specs.declared.header.HeaderFault.{HeaderFault}
use Rattle.dcc_message.specs.declared.length.TheConstants.{HEADER_LENGTH}
use Rattle.dcc_request.specs.Sessions.{session_of}
use Rattle.dcc_answer.specs.Proxies.{proxies_of}
use Rattle.dcc_base.specs.Peers.{is_credit_control, is_closed}
use Rattle.dcc_base.specs.declared.peer.Peer.{Peer}
use Rattle.dcc_base.specs.declared.peer.Peer.TheVariants.{Wait, Open, Closed}

-- a message: its header, and the list behind it or the fault of a list that can't be read
pub record MessageView : Type 0 where
  pub header : HeaderView
  pub list : Result (List AvpView) FaultView

-- the list stands behind the octets of the header
abbrev pub message_view : HeaderView → List ℕ → MessageView
message_view header octets = record { header = header; list = avps_of (drop HEADER_LENGTH octets) }

-- the values that an answer copies: none from a list that can't be read

abbrev pub session_of_list : Result (List AvpView) FaultView → Option (List ℕ)
session_of_list (Ok avps) = session_of avps
session_of_list (Err fault) = None

abbrev pub proxies_of_list : Result (List AvpView) FaultView → List ℕ
proxies_of_list (Ok avps) = proxies_of avps
proxies_of_list (Err fault) = []

abbrev pub session : MessageView → Option (List ℕ)
session message = session_of_list message.list

abbrev pub proxies : MessageView → List ℕ
proxies message = proxies_of_list message.list

pub data Received : Type 0 where
  -- the peer is closed, so that nobody receives it
  Ignored : Received
  -- it is no message, and its connection is closed
  Broken : Received
  -- it is a credit-control request, from a peer of this host
  Charging : (host : List ℕ) → MessageView → Received
  -- it is any other message, to this peer, of the base protocol
  Base : Peer → MessageView → Received

-- a credit-control request without E, to an open peer
abbrev pub is_charging : Peer → HeaderView → Bool
is_charging Wait header = false
is_charging (Open host) header = is_request header && is_credit_control header
is_charging Closed header = false

-- the name of an open peer's host; another peer has none, and no charging message comes from it
abbrev pub host_name : Peer → List ℕ
host_name Wait = []
host_name (Open host) = host
host_name Closed = []

abbrev pub received_by : Peer → MessageView → Received
received_by peer message = if is_charging peer message.header then Charging (host_name peer) message else Base peer message

abbrev pub received_with : Peer → Result HeaderView HeaderFault → List ℕ → Received
received_with peer (Ok header) octets = received_by peer (message_view header octets)
received_with peer (Err fault) octets = Broken

unfoldable pub received : Peer → List ℕ → Received
received peer octets = if is_closed peer then Ignored else received_with peer (header_of octets) octets

-- nothing is received from a peer that isn't connected, or is closed
abbrev pub received_on : Option Peer → List ℕ → Received
received_on None octets = Ignored
received_on (Some peer) octets = received peer octets
