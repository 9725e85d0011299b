-- One message, from what its peer was dispatched.
use Rattle.std.proofs.Common.{◌≡◌, ℕ, ◌==◌, Bool, true, false, ◌&&◌, if◌then◌else◌, List, [], Option, Some, None, Result, Ok, Err, refl, sym, ap, subst, ◌∙◌, inl, inr}
use Rattle.std.proofs.lemmas.Bool.{cases_Bool, eqb-true}
use Rattle.dcc_message.specs.HeaderView.{HeaderView}
use Rattle.dcc_message.specs.Headers.{header_of}
use Rattle.dcc_message.specs.declared.header.HeaderFault.{HeaderFault}
use Rattle.dcc_message.specs.declared.identity.Identity.{Identity}
use Rattle.dcc_act.specs.declared.act.Act.{Act}
use Rattle.dcc_act.specs.declared.sub.Sub.{Sub}
use Rattle.dcc_model.specs.Outcomes.{acts}
use Rattle.dcc_base.specs.Peers.{hears, is_closed, replied}
use Rattle.dcc_base.specs.declared.peer.Peer.{Peer}
use Rattle.dcc_base.specs.declared.reply.Reply.{Reply}
use Rattle.dcc_shard.specs.Shards.{ShardView, held, AreOwn}
use Rattle.dcc_dispatch.specs.Dispatches.{IsAsked, IsRefused, IsReplied, IsRepliedTo}
use Rattle.dcc_dispatch.specs.Verdicts.{verdict_of, settled}
use Rattle.dcc_dispatch.specs.declared.asked.Asked.{Asked}
use Rattle.dcc_dispatch.specs.declared.verdict.Verdict.{Verdict}
use Rattle.dcc_dispatch.specs.Messages.{MessageView, Received, is_charging, message_view, received, received_on, received_with}
use Rattle.dcc_dispatch.specs.Refusals.{is_refusal}
use Rattle.dcc_dispatch.specs.Settings.{Setting}
use Rattle.dcc_engine.specs.Openers.{Before, opener_of, verdict_in}
use Rattle.dcc_engine.specs.Asks.{Ask, received_ask, own_with, moved_by, left_with, IsMessageOut, out_octets, out_reply}
use Rattle.dcc_engine.specs.Engines.{EngineView, PeersView, peer_in, peer_of}
use Rattle.dcc_engine.specs.inner.Turns.{IsJudged, IsTurnDone, now_with, now_of}
use Rattle.dcc_engine.specs.declared.event.Event.TheVariants as events
use Rattle.dcc_engine.specs.declared.event.Out.{Out}
use Rattle.dcc_engine.specs.declared.peers.PeerRow.{PeerRow}
use Rattle.dcc_engine.proofs.Requests.{of_terms, refused_at_once, stays_put}

-- the rows in which this peer is what it then is, and no other has changed
abbrev pub AreWith : List PeerRow → List PeerRow → ℕ → Peer → Type 0
AreWith old new id to = (q : ℕ) → peer_in new q ≡ (if id == q then Some to else peer_in old q)

-- a peer that is as it was leaves all as they were
pub same_rows : (old new : List PeerRow) (id : ℕ) (from to : Peer) → peer_in old id ≡ Some from → to ≡ from → AreWith old new id to → (q : ℕ) → peer_in new q ≡ peer_in old q
same_rows old new id from to here kept rows q =
    elim (cases_Bool (id == q)) [
      | inl t ↦ (let e : id ≡ q = eqb-true id q t in
          let changed : peer_in new q ≡ Some to = rw t at (rows q) in
          changed ∙ ap (λ (p : Peer). Some p) kept ∙ sym here ∙ ap (peer_in old) e)
      | inr f ↦ (let same : peer_in new q ≡ peer_in old q = rw f at (rows q) in same)
    ]

-- a peer is where the message leaves it, and so is each
moved_there : (setting : Setting) (old new : List PeerRow) (id moment : ℕ) (octets : List ℕ) (from to : Peer) (out : Out) → peer_in old id ≡ Some from
    → Some to ≡ left_with setting (received from octets) out (Some from) → AreWith old new id to
    → (q : ℕ) → peer_in new q ≡ moved_by setting q (record { event = events.Message id moment octets; out = out }) (peer_in old q)
moved_there setting old new id moment octets from to out here left rows q =
    elim (cases_Bool (id == q)) [
      | inl t ↦ (let e : id ≡ q = eqb-true id q t in
          let changed : peer_in new q ≡ Some to = rw t at (rows q) in
          let there : Some from ≡ peer_in old q = sym here ∙ ap (peer_in old) e in
          let all : peer_in new q ≡ left_with setting (received_on (peer_in old q) octets) out (peer_in old q) =
          changed ∙ left ∙ ap (λ (p : Option Peer). left_with setting (received_on p octets) out p) there in
          rw t all)
      | inr f ↦ (let same : peer_in new q ≡ peer_in old q = rw f at (rows q) in rw f same)
    ]

-- a message that asks nobody for anything
nobody_judged : (setting : Setting) (peers : ℕ → Option Peer) (held_there : ShardView) (id moment : ℕ) (octets : List ℕ) (out : Out) (what : Received)
    → ((s : Sub) → acts setting.plan.terms (held held_there s) ≡ held held_there s) → received_on (peers id) octets ≡ what → ((s : Sub) → received_ask setting (now_with peers held_there) moment what s ≡ None)
    → IsMessageOut setting (now_with peers held_there) moment what id out
    → IsJudged setting (now_with peers held_there) (held held_there) (record { event = events.Message id moment octets; out = out })
nobody_judged setting peers held_there id moment octets out what own received none whole =
    let before = now_with peers held_there in
    record {
      next = record {
        subscribers = λ sub ask is. let here : None ≡ Some ask = sym (none sub) ∙ ap (λ (w : Received). received_ask setting before moment w sub) (sym received) ∙ is in absurd cc;
        whole = subst (λ (w : Received). IsMessageOut setting before moment w id out) (sym received) whole;
      };
      held = λ sub. sym (own sub) ∙ ap (λ (a : Option Ask). acts setting.plan.terms (own_with a out sub (held held_there sub)))
          (sym (ap (λ (w : Received). received_ask setting before moment w sub) received ∙ none sub));
    }

-- a message that isn't a credit-control request is its own peer's
own_peer_with : (peer from : Peer) (read : Result HeaderView HeaderFault) (octets : List ℕ) (message : MessageView) → received_with peer read octets ≡ Received.Base from message → from ≡ peer
own_peer_with peer from (Ok header) octets message is =
    elim (cases_Bool (is_charging peer header)) [
      | inl t ↦ (let e = rw t at is in absurd cc)
      | inr f ↦ (let e : Received.Base peer (message_view header octets) ≡ Received.Base from message = rw f at is in cc)
    ]
own_peer_with peer from (Err fault) octets message is = absurd cc

own_peer : (peer from : Peer) (octets : List ℕ) (message : MessageView) → received peer octets ≡ Received.Base from message → from ≡ peer
unfolding received
own_peer peer from octets message is =
    elim (cases_Bool (is_closed peer)) [
      | inl t ↦ (let e = rw t at is in absurd cc)
      | inr f ↦ (let e : received_with peer (header_of octets) octets ≡ Received.Base from message = rw f at is in own_peer_with peer from (header_of octets) octets message e)
    ]

-- what is replied is the whole out
base_out : (setting : Setting) (before : Before) (moment id : ℕ) (from to : Peer) (message : MessageView) (reply : Reply) → IsReplied setting.identity from to message reply
    → IsMessageOut setting before moment (Received.Base from message) id (out_reply id reply)
base_out setting before moment id from to message reply is =
    elim (cases_Bool (hears from message.header && is_refusal reply.octets)) [
      | inl t ↦ (let refused = rw t at is in
          let closes : reply.close ≡ false = refused.1 in
          rw t (ap (λ (b : Bool). record { peer = Some id; octets = reply.octets; close = b; top_up = None; refused = []; refused_all = false }) closes, refused.0))
      | inr f ↦ (let said : (reply, to) ≡ replied setting.identity from message.header message.list = rw f at is in
          rw f (ap (λ (pair : Reply × Peer). out_reply id pair.0) said))
    ]

base_left : (setting : Setting) (id : ℕ) (from to : Peer) (message : MessageView) (reply : Reply) → IsReplied setting.identity from to message reply
    → Some to ≡ left_with setting (Received.Base from message) (out_reply id reply) (Some from)
base_left setting id from to message reply is =
    elim (cases_Bool (hears from message.header && is_refusal reply.octets)) [
      | inl t ↦ (let refused = rw t at is in
          let kept : to ≡ from = refused.2 in
          rw t (ap (λ (p : Peer). Some p) kept))
      | inr f ↦ (let said : (reply, to) ≡ replied setting.identity from message.header message.list = rw f at is in
          rw f (ap (λ (pair : Reply × Peer). Some pair.1) said))
    ]

-- refused or not
left_where : (refused : Bool) (peer : Option Peer) → peer ≡ (if refused then peer else peer)
left_where true peer = refl
left_where false peer = refl

-- where a reply leaves the peer
left_so : (setting : Setting) (moment id : ℕ) (from to : Peer) (octets : List ℕ) (reply : Reply) (what : Received) → received from octets ≡ what → IsRepliedTo setting moment what from to reply
    → Some to ≡ left_with setting what (out_reply id reply) (Some from)
left_so setting moment id from to octets reply Received.Ignored received is = ap (λ (p : Peer). Some p) is.1
left_so setting moment id from to octets reply Received.Broken received is = ap (λ (p : Peer). Some p) is.1
left_so setting moment id from to octets reply (Received.Charging host message) received is = ap (λ (p : Peer). Some p) is.2 ∙ left_where (is_refusal reply.octets) (Some from)
left_so setting moment id from to octets reply (Received.Base other message) received is =
    let same = own_peer from other octets message received in
    subst (λ (p : Peer). Some to ≡ left_with setting (Received.Base p message) (out_reply id reply) (Some from)) (sym same) (base_left setting id from to message reply is)

-- what is refused at once, or asks somebody, is so when those are found who are sought
refused_settled : (identity : Identity) (message : MessageView) (find : Act → Option Sub) (verdict : Verdict) (octets : List ℕ) → IsRefused identity message verdict octets
    → IsRefused identity message (settled identity message find verdict) octets
refused_settled identity message find verdict octets is =
    elim (cases_Bool (is_refusal octets)) [
      | inl t ↦ (let busy = rw t at is in rw t busy)
      | inr f ↦ (let said = rw f at is in rw f (ap (settled identity message find) said))
    ]

pub asked_settled : (identity : Identity) (message : MessageView) (find : Act → Option Sub) (verdict : Verdict) (asked : Asked) → IsAsked message verdict asked
    → IsAsked message (settled identity message find verdict) asked
asked_settled identity message find verdict asked is =
    record {
      verdict_is = ap (settled identity message find) is.verdict_is;
      session_is = is.session_is;
      request = is.request;
      header_is = is.header_is;
      proxies_are = is.proxies_are;
    }

-- a reply behind which the connection stays is octets alone
reply_is : (id : ℕ) (reply : Reply) → reply.close ≡ false → out_octets (Some id) reply.octets ≡ out_reply id reply
reply_is id reply stays = ap (λ (b : Bool). record { peer = Some id; octets = reply.octets; close = b; top_up = None; refused = []; refused_all = false }) (sym stays)

-- a reply is the whole out of its message, and asks nobody for anything but what it refuses
replied_judged : (setting : Setting) (peers : ℕ → Option Peer) (held_there : ShardView) (id moment : ℕ) (octets : List ℕ) (from to : Peer) (reply : Reply) (what : Received)
    → held_there.terms ≡ setting.plan.terms → AreOwn held_there → received_on (peers id) octets ≡ what → received from octets ≡ what → IsRepliedTo setting moment what from to reply
    → IsJudged setting (now_with peers held_there) (held held_there) (record { event = events.Message id moment octets; out = out_reply id reply })
replied_judged setting peers held_there id moment octets from to reply Received.Ignored terms own here there is =
    nobody_judged setting peers held_there id moment octets (out_reply id reply) Received.Ignored (of_terms setting held_there terms own) here (λ s. refl) (ap (out_reply id) is.0)
replied_judged setting peers held_there id moment octets from to reply Received.Broken terms own here there is =
    nobody_judged setting peers held_there id moment octets (out_reply id reply) Received.Broken (of_terms setting held_there terms own) here (λ s. refl) (ap (out_reply id) is.0)
replied_judged setting peers held_there id moment octets from to reply (Received.Charging host message) terms own here there is =
    let find = opener_of setting.plan.terms (now_with peers held_there) host in
    let judged = refused_at_once setting peers held_there id moment octets host message reply.octets terms own here
    (refused_settled setting.identity message find (verdict_of setting moment host message) reply.octets is.0) in
    subst (λ (out : Out). IsJudged setting (now_with peers held_there) (held held_there) (record { event = events.Message id moment octets; out = out })) (reply_is id reply is.1) judged
replied_judged setting peers held_there id moment octets from to reply (Received.Base other message) terms own here there is =
    let same = own_peer from other octets message there in
    nobody_judged setting peers held_there id moment octets (out_reply id reply) (Received.Base other message) (of_terms setting held_there terms own) here (λ s. refl)
    (subst (λ (p : Peer). IsMessageOut setting (now_with peers held_there) moment (Received.Base p message) id (out_reply id reply)) (sym same) (base_out setting (now_with peers held_there) moment id from to message reply is))

-- one turn of a message that is replied at once
pub replied_done : (old : EngineView) (peers : PeersView) (id moment : ℕ) (octets : List ℕ) (from to : Peer) (reply : Reply) → old.shard.terms ≡ old.setting.plan.terms → AreOwn old.shard
    → peer_of old id ≡ Some from → IsRepliedTo old.setting moment (received from octets) from to reply → AreWith old.peers.rows peers.rows id to
    → IsTurnDone old (record { setting = old.setting; peers = peers; shard = old.shard; shards = old.shards }) (record { event = events.Message id moment octets; out = out_reply id reply })
replied_done old peers id moment octets from to reply terms own here is rows =
    let what = received from octets in
    let there : received_on (peer_of old id) octets ≡ what = ap (λ (p : Option Peer). received_on p octets) here in
    record {
      judged = replied_judged old.setting (peer_of old) old.shard id moment octets from to reply what terms own there refl is;
      peers = moved_there old.setting old.peers.rows peers.rows id moment octets from to (out_reply id reply) here (left_so old.setting moment id from to octets reply what refl is) rows;
      setting = refl;
    }

-- one turn of a request that is refused once its subscriber was sought
pub refused_done : (old : EngineView) (peers : PeersView) (id moment : ℕ) (octets host : List ℕ) (message : MessageView) (reply : Reply) → old.shard.terms ≡ old.setting.plan.terms → AreOwn old.shard
    → received_on (peer_of old id) octets ≡ Received.Charging host message → ((q : ℕ) → peer_in peers.rows q ≡ peer_of old q)
    → IsRefused old.setting.identity message (verdict_in old.setting (now_of old) moment host message) reply.octets → reply.close ≡ false
    → IsTurnDone old (record { setting = old.setting; peers = peers; shard = old.shard; shards = old.shards }) (record { event = events.Message id moment octets; out = out_reply id reply })
refused_done old peers id moment octets host message reply terms own received same refused stays =
    let judged = refused_at_once old.setting (peer_of old) old.shard id moment octets host message reply.octets terms own received refused in
    let after : EngineView = record { setting = old.setting; peers = peers; shard = old.shard; shards = old.shards } in
    subst (λ (out : Out). IsTurnDone old after (record { event = events.Message id moment octets; out = out })) (reply_is id reply stays)
    (stays_put old peers old.shard old.shards id moment octets host message reply.octets received same judged)
