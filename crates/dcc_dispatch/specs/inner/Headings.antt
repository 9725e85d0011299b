-- The kind of a message by its first octets.
use Rattle.std.specs.Prelude.{◌≡◌, ℕ, ◌≤◌, ◌+◌, ◌%◌, List, length, Result, Ok, Err, Some}
use Rattle.std.specs.List.{sum_by}
use Rattle.dcc_avp.specs.Spelling.{AvpView, padded_len}
use Rattle.dcc_avp.specs.Reading.{FaultView}
use Rattle.dcc_avp.specs.Reading.FaultView.{Short, LengthBelowHeader, LengthPastEnd}
use Rattle.dcc_avp.specs.declared.fault.AvpFault.{AvpFault}
use Rattle.dcc_avp.specs.declared.fault.AvpFault.TheVariants as faults
use Rattle.dcc_message.specs.declared.length.TheConstants.{HEADER_LENGTH, MAX_LENGTH}
use Rattle.dcc_request.specs.Layout.{layout_fault}
use Rattle.dcc_base.specs.Peers.{host_of_peer}
use Rattle.dcc_base.specs.declared.peer.Peer.{Peer}
use Rattle.dcc_dispatch.specs.Messages.{Received, message_view, host_name}
use Rattle.dcc_dispatch.specs.Messages.Received.{Ignored, Broken, Charging, Base}
use Rattle.dcc_dispatch.specs.declared.message.Heading.{Heading}
use Rattle.dcc_dispatch.specs.declared.message.Heading.TheVariants as headings

-- the message to a peer with this heading
abbrev pub received_as : Peer → Heading → List ℕ → Received
received_as peer headings.Ignored octets = Ignored
received_as peer headings.Broken octets = Broken
received_as peer (headings.Charging header) octets = Charging (host_name peer) (message_view header octets)
received_as peer (headings.Base header) octets = Base peer (message_view header octets)

-- a message has a header at least, no more octets than it may have, and whole words of four
pub record IsWhole (octets : List ℕ) : Type 0 where
  pub least : HEADER_LENGTH ≤ length octets
  pub most : length octets ≤ MAX_LENGTH
  pub words : length octets % 4 ≡ 0

-- a message with a header is whole; and the peer of a charging message has a host
abbrev pub IsHeaded : Peer → Heading → List ℕ → Type 0
IsHeaded peer headings.Ignored octets = Unit {0}
IsHeaded peer headings.Broken octets = Unit {0}
IsHeaded peer (headings.Charging header) octets = IsWhole octets × (host_of_peer peer ≡ Some (host_name peer))
IsHeaded peer (headings.Base header) octets = IsWhole octets

-- the fault of a list's layout; the last two are no faults of layout, and no message has them
abbrev pub fault_of : AvpFault → FaultView
fault_of (faults.Short code flags) = Short code flags
fault_of (faults.LengthBelowHeader code flags) = LengthBelowHeader code flags
fault_of (faults.LengthPastEnd code flags) = LengthPastEnd code flags
fault_of faults.WrongSize = Short 0 0
fault_of faults.Memory = Short 0 0

-- the list that was read, seen by view, or its fault
abbrev pub list_with : {X : Type 0} → (X → List AvpView) → Result X AvpFault → Result (List AvpView) FaultView
list_with view (Ok avps) = Ok (view avps)
list_with view (Err fault) = Err (fault_of fault)

-- the list fits a message behind a header, with its padding; and a fault is a fault of layout
abbrev pub IsListed : {X : Type 0} → (X → List AvpView) → Result X AvpFault → Type 0
IsListed view (Ok avps) = HEADER_LENGTH + sum_by padded_len (view avps) ≤ MAX_LENGTH
IsListed view (Err fault) = layout_fault fault ≡ Some (fault_of fault)
