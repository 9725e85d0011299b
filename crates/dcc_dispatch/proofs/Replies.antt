-- What a peer is replied to a message of the base protocol.
use Rattle.std.proofs.Common.{◌≡◌, ◌≤◌, true, false, [], length, MatchBool, refl, ◌∙◌}
use Rattle.dcc_message.specs.declared.identity.Identity.{Identity}
use Rattle.dcc_message.specs.declared.length.TheConstants.{HEADER_LENGTH}
use Rattle.dcc_answer.specs.Results.{is_busy}
use Rattle.dcc_base.specs.Peers.{hears, unheard, replied}
use Rattle.dcc_base.specs.declared.peer.Peer.{Peer}
use Rattle.dcc_base.specs.declared.reply.Reply.{Reply}
use Rattle.dcc_dispatch.specs.Refusals.{is_refusal, IsBusyOrNothing}
use Rattle.dcc_dispatch.specs.Messages.{MessageView}
use Rattle.dcc_dispatch.specs.Dispatches.{IsReplied}
use Rattle.dcc_dispatch.proofs.Refusals.{answer_counts}

unheard_is : (identity : Identity) (old : Peer) (message : MessageView) → hears old message.header ≡ false → unheard old ≡ replied identity old message.header message.list
unfolding replied
unheard_is identity old message not_heard = rw not_heard refl

-- one that isn't heard is passed over
pub passed_over : (identity : Identity) (old new : Peer) (message : MessageView) (reply : Reply) → hears old message.header ≡ false → (reply, new) ≡ unheard old → IsReplied identity old new message reply
passed_over identity old new message reply not_heard is =
    let all : (reply, new) ≡ replied identity old message.header message.list = is ∙ unheard_is identity old message not_heard in
    rw not_heard all

-- one that is heard is answered
pub answered : (identity : Identity) (old new : Peer) (message : MessageView) (reply : Reply) → hears old message.header ≡ true → is_busy reply.octets ≡ false
    → MatchBool (hears old message.header) (HEADER_LENGTH ≤ length reply.octets) (reply.octets ≡ []) → (reply, new) ≡ replied identity old message.header message.list
    → IsReplied identity old new message reply
answered identity old new message reply heard other some is =
    let le : HEADER_LENGTH ≤ length reply.octets = rw heard at some in
    let counts = answer_counts reply.octets le other in
    rw (heard, counts) is

-- or refused
pub refused : (identity : Identity) (old new : Peer) (message : MessageView) (reply : Reply) → hears old message.header ≡ true → is_refusal reply.octets ≡ true
    → IsBusyOrNothing identity message reply.octets → reply.close ≡ false → new ≡ old → IsReplied identity old new message reply
refused identity old new message reply heard refuses busy kept stays = rw (heard, refuses) (busy, kept, stays)
