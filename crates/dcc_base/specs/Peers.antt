-- The reply of a peer to a message, the end of its connection, and the peer afterwards (RFC 6733, sections 5.3 to 5.6).
use Rattle.std.specs.Prelude.{ℕ, Bool, true, false, not, ◌&&◌, if◌then◌else◌, List, [], Option, Some, None, Result, Ok, Err}
use Rattle.dcc_avp.specs.Reading.{FaultView}
use Rattle.dcc_message.specs.HeaderView.{HeaderView}
use Rattle.dcc_message.specs.Headers.{is_request, is_error, is_command}
use Rattle.dcc_message.specs.declared.applications.TheConstants as applications
use Rattle.dcc_message.specs.declared.commands.TheConstants as commands
use Rattle.dcc_message.specs.declared.identity.Identity.{Identity}
use Rattle.dcc_request.specs.Refusals.{Refusal}
use Rattle.dcc_request.specs.Sessions.{session_of}
use Rattle.dcc_answer.specs.Proxies.{proxies_of}
use Rattle.dcc_base.specs.declared.effect.Effect.{Effect}
use Rattle.dcc_base.specs.declared.effect.Effect.TheVariants.{Opens, Stays, Closes}
use Rattle.dcc_base.specs.declared.peer.Peer.{Peer}
use Rattle.dcc_base.specs.declared.peer.Peer.TheVariants.{Wait, Open, Closed}
use Rattle.dcc_base.specs.declared.reply.Reply.{Reply}
use Rattle.dcc_base.specs.Requests.{Read, judged}
use Rattle.dcc_base.specs.Answers.{Taken, is_capabilities, answered}

-- the name of the host of a peer that is open
abbrev pub host_of_peer : Peer → Option (List ℕ)
host_of_peer Wait = None
host_of_peer (Open host) = Some host
host_of_peer Closed = None

abbrev pub is_closed : Peer → Bool
is_closed Wait = false
is_closed (Open host) = false
is_closed Closed = true

-- no answer, and the connection stays or is closed
abbrev pub silent : Reply
silent = record { octets = []; close = false }

abbrev pub shut : Reply
shut = record { octets = []; close = true }

-- the session and the proxies that an answer copies from a message: none if its list can't be read
abbrev pub taken_from : Read → Taken
taken_from (Ok avps) = record { session = session_of avps; proxies = proxies_of avps }
taken_from (Err fault) = record { session = None; proxies = [] }

-- the peer after an accepted request
abbrev pub becomes : Peer → Effect → Peer
becomes peer (Opens host) = Open host
becomes peer Stays = peer
becomes peer Closes = Closed

-- the peer after a request; a refused exchange of capabilities closes it, since the exchange is not tried twice, and another
-- refusal leaves it as it is
abbrev pub after : Peer → HeaderView → Result Effect Refusal → Peer
after peer request (Ok effect) = becomes peer effect
after peer request (Err refusal) = if is_capabilities request then Closed else peer

-- a judged request: its answer, behind which the connection is closed if the peer is closed then, and the peer afterwards
abbrev pub concluded : Identity → Peer → HeaderView → Taken → Result Effect Refusal → Reply × Peer
concluded identity peer request taken verdict =
    (record { octets = answered identity request taken verdict; close = is_closed (after peer request verdict) }, after peer request verdict)

abbrev pub asked : Identity → Peer → HeaderView → Read → Reply × Peer
asked identity peer request read = concluded identity peer request (taken_from read) (judged request read)

-- a Credit-Control request without E, which is not of the base protocol
abbrev pub is_credit_control : HeaderView → Bool
is_credit_control header = not (is_error header) && is_command commands.CREDIT_CONTROL applications.CREDIT_CONTROL header

-- A message is answered: by a waiting peer a request to exchange capabilities, by an open peer each request but those of
-- Credit-Control without E, by a closed peer none.
abbrev pub hears : Peer → HeaderView → Bool
hears Wait header = is_request header && is_capabilities header
hears (Open host) header = is_request header && not (is_credit_control header)
hears Closed header = false

-- The reply to any other message, and the peer afterwards: a waiting peer is closed, and an open or closed peer ignores the message.
abbrev pub unheard : Peer → Reply × Peer
unheard Wait = (shut, Closed)
unheard (Open host) = (silent, Open host)
unheard Closed = (silent, Closed)

-- the reply of a peer to a message, and the peer afterwards
unfoldable pub replied : Identity → Peer → HeaderView → Read → Reply × Peer
replied identity peer header read = if hears peer header then asked identity peer header read else unheard peer

-- The reply to a message whose list has this fault of layout, and the peer afterwards. Without such a fault nothing is answered.
abbrev pub replied_to_fault : Identity → Peer → HeaderView → Option FaultView → Reply × Peer
replied_to_fault identity peer header None = (silent, peer)
replied_to_fault identity peer header (Some fault) = replied identity peer header (Err fault)
