-- One request that was handed to a shard, at once or once its subscriber was sought.
use Rattle.std.proofs.Common.{◌≡◌, ℕ, true, List, Option, Some, option_and_then, ap, subst, ◌∙◌}
use Rattle.std.specs.Prelude.{is_some}
use Rattle.dcc_tariff.specs.Terms.{TermsView}
use Rattle.dcc_act.specs.Subs.{SameAreEqual}
use Rattle.dcc_act.specs.declared.act.Act.{Act}
use Rattle.dcc_model.specs.Keys.{request_key}
use Rattle.dcc_model.specs.Outcomes.{was_opened_from}
use Rattle.dcc_openers.specs.Found.{one_of}
use Rattle.dcc_openers.specs.declared.found.Found.{Found}
use Rattle.dcc_base.specs.Peers.{host_of_peer}
use Rattle.dcc_base.specs.declared.peer.Peer.{Peer}
use Rattle.dcc_base.specs.declared.reply.Reply.{Reply}
use Rattle.dcc_shard.specs.Openers.{IsFound, opened}
use Rattle.dcc_shard.specs.Shards.{ShardView, AreOwn, held}
use Rattle.dcc_dispatch.specs.Dispatches.{IsAsked, IsSought, IsSettled, session_of_key}
use Rattle.dcc_dispatch.specs.Messages.{MessageView, Received, host_name, message_view, received_on}
use Rattle.dcc_dispatch.specs.Sought.{SoughtView}
use Rattle.dcc_dispatch.specs.Verdicts.{verdict_of, settled}
use Rattle.dcc_dispatch.specs.declared.asked.Asked.{Asked}
use Rattle.dcc_dispatch.specs.declared.decide.Dispatched.{Dispatched}
use Rattle.dcc_dispatch.specs.declared.decide.Dispatched.TheVariants as dispatcheds
use Rattle.dcc_dispatch.specs.declared.settled.Settled.{Settled}
use Rattle.dcc_dispatch.specs.declared.settled.Settled.TheVariants as settleds
use Rattle.dcc_dispatch.specs.declared.verdict.Verdict.{Verdict}
use Rattle.dcc_engine.specs.Asks.{out_octets, out_reply}
use Rattle.dcc_engine.specs.Engines.{EngineView, PeersView, peer_in, peer_of, subs_in}
use Rattle.dcc_engine.specs.Openers.{openers, the_one, opener_of, verdict_in}
use Rattle.dcc_engine.specs.inner.Turns.{IsHeard, IsHandedOn, IsTurnDone, host_on, now_of, now_with}
use Rattle.dcc_engine.specs.declared.event.Event.TheVariants as events
use Rattle.dcc_engine.proofs.Covering.{now_covers}
use Rattle.dcc_engine.proofs.Owners.{found_is}
use Rattle.dcc_engine.proofs.Hearing.{asked_settled, refused_done, same_rows}
use Rattle.dcc_engine.proofs.Requests.{handed_judged, stays_put}

-- an engine of the same setting, with other peers and another shard
abbrev pub engine_with : EngineView → PeersView → ShardView → ℕ → EngineView
engine_with old peers new shards = record { setting = old.setting; peers = peers; shard = new; shards = shards }

-- one turn of a request of this verdict that was handed to a shard
handed_done : SameAreEqual → (old : EngineView) (peers : PeersView) (new : ShardView) (shards id moment : ℕ) (octets host : List ℕ) (message : MessageView) (asked : Asked) (given : List ℕ)
    → old.shard.identity ≡ old.setting.identity → old.shard.terms ≡ old.setting.plan.terms → AreOwn old.shard → received_on (peer_of old id) octets ≡ Received.Charging host message
    → ((q : ℕ) → peer_in peers.rows q ≡ peer_of old q) → IsAsked message (verdict_in old.setting (now_of old) moment host message) asked → IsHandedOn old.shard new asked given
    → IsTurnDone old (engine_with old peers new shards) (record { event = events.Message id moment octets; out = out_octets (Some id) given })
handed_done law old peers new shards id moment octets host message asked given identity terms own received same is handed =
    stays_put old peers new shards id moment octets host message given received same
    (handed_judged law old.setting (peer_of old) old.shard new id moment octets host message given asked identity terms own received is handed)

-- the request names its subscriber
pub asked_done : SameAreEqual → (old : EngineView) (peers : PeersView) (new : ShardView) (shards id moment : ℕ) (octets : List ℕ) (asked : Asked) (given : List ℕ)
    → old.shard.identity ≡ old.setting.identity → old.shard.terms ≡ old.setting.plan.terms → AreOwn old.shard
    → IsHeard old.setting old.peers.rows peers.rows id moment octets (dispatcheds.Asked asked) → IsHandedOn old.shard new asked given
    → IsTurnDone old (engine_with old peers new shards) (record { event = events.Message id moment octets; out = out_octets (Some id) given })
asked_done law old peers new shards id moment octets asked given identity terms own heard handed =
    let message = message_view asked.header octets in
    let host = host_name heard.from in
    let received = ap (λ (p : Option Peer). received_on p octets) heard.from_is ∙ heard.charging in
    let same = same_rows old.peers.rows peers.rows id heard.from heard.to heard.from_is heard.kept heard.rows in
    handed_done law old peers new shards id moment octets host message asked given identity terms own received same
    (asked_settled old.setting.identity message (opener_of old.setting.plan.terms (now_of old) host) (verdict_of old.setting moment host message) asked heard.asked) handed

-- The request names nobody, and its subscriber is sought: among those of whom the shard holds acts, in an engine whose peers have heard it.

-- what is sought comes to this, for whatever message it is of
abbrev pub Settles : EngineView → ℕ → SoughtView → Settled → Type 0
Settles engine id sought made = (host : List ℕ) (message : MessageView) (verdict : Verdict) → host_on (peer_of engine id) ≡ Some host → IsSought message verdict sought
    → IsSettled engine.setting.identity message (settled engine.setting.identity message (opener_of engine.setting.plan.terms (now_of engine) host) verdict) made

named_there : (old : EngineView) (peers : PeersView) (id moment : ℕ) (octets : List ℕ) (sought : SoughtView)
    → (heard : IsHeard old.setting old.peers.rows peers.rows id moment octets (dispatcheds.Sought sought)) → host_on (peer_in peers.rows id) ≡ Some (host_name heard.from)
named_there old peers id moment octets sought heard =
    let same = same_rows old.peers.rows peers.rows id heard.from heard.to heard.from_is heard.kept heard.rows in
    ap host_on (same id ∙ heard.from_is) ∙ heard.named

-- the peer that was heard has a host
pub has_host : (old : EngineView) (peers : PeersView) (id moment : ℕ) (octets : List ℕ) (sought : SoughtView)
    → IsHeard old.setting old.peers.rows peers.rows id moment octets (dispatcheds.Sought sought) → is_some (host_on (peer_in peers.rows id)) ≡ true
has_host old peers id moment octets sought heard = ap is_some (named_there old peers id moment octets sought heard)

settled_there : (old : EngineView) (peers : PeersView) (id moment : ℕ) (octets : List ℕ) (sought : SoughtView) (made : Settled)
    → (heard : IsHeard old.setting old.peers.rows peers.rows id moment octets (dispatcheds.Sought sought)) → Settles (engine_with old peers old.shard old.shards) id sought made
    → IsSettled old.setting.identity (message_view sought.header octets) (verdict_in old.setting (now_of old) moment (host_name heard.from) (message_view sought.header octets)) made
settled_there old peers id moment octets sought made heard settles =
    let message = message_view sought.header octets in
    let host = host_name heard.from in
    settles host message (verdict_of old.setting moment host message) (named_there old peers id moment octets sought heard) heard.sought

pub sought_done : SameAreEqual → (old : EngineView) (peers : PeersView) (new : ShardView) (shards id moment : ℕ) (octets : List ℕ) (sought : SoughtView) (asked : Asked) (given : List ℕ)
    → old.shard.identity ≡ old.setting.identity → old.shard.terms ≡ old.setting.plan.terms → AreOwn old.shard
    → IsHeard old.setting old.peers.rows peers.rows id moment octets (dispatcheds.Sought sought) → Settles (engine_with old peers old.shard old.shards) id sought (settleds.Asked asked)
    → IsHandedOn old.shard new asked given
    → IsTurnDone old (engine_with old peers new shards) (record { event = events.Message id moment octets; out = out_octets (Some id) given })
sought_done law old peers new shards id moment octets sought asked given identity terms own heard settles handed =
    let message = message_view sought.header octets in
    let host = host_name heard.from in
    let received = ap (λ (p : Option Peer). received_on p octets) heard.from_is ∙ heard.charging in
    let same = same_rows old.peers.rows peers.rows id heard.from heard.to heard.from_is heard.kept heard.rows in
    handed_done law old peers new shards id moment octets host message asked given identity terms own received same
    (settled_there old peers id moment octets sought (settleds.Asked asked) heard settles) handed

-- what the one who was found is asked for is a request's act
pub sought_request : (old : EngineView) (peers : PeersView) (id moment : ℕ) (octets : List ℕ) (sought : SoughtView) (asked : Asked)
    → IsHeard old.setting old.peers.rows peers.rows id moment octets (dispatcheds.Sought sought) → Settles (engine_with old peers old.shard old.shards) id sought (settleds.Asked asked)
    → is_some (request_key asked.act.kind) ≡ true
sought_request old peers id moment octets sought asked heard settles = (settled_there old peers id moment octets sought (settleds.Asked asked) heard settles).request

pub unfound_done : (old : EngineView) (peers : PeersView) (id moment : ℕ) (octets : List ℕ) (sought : SoughtView) (reply : Reply) → old.shard.terms ≡ old.setting.plan.terms → AreOwn old.shard
    → IsHeard old.setting old.peers.rows peers.rows id moment octets (dispatcheds.Sought sought) → Settles (engine_with old peers old.shard old.shards) id sought (settleds.Replied reply)
    → IsTurnDone old (engine_with old peers old.shard old.shards) (record { event = events.Message id moment octets; out = out_reply id reply })
unfound_done old peers id moment octets sought reply terms own heard settles =
    let message = message_view sought.header octets in
    let host = host_name heard.from in
    let received = ap (λ (p : Option Peer). received_on p octets) heard.from_is ∙ heard.charging in
    let same = same_rows old.peers.rows peers.rows id heard.from heard.to heard.from_is heard.kept heard.rows in
    let is = settled_there old peers id moment octets sought (settleds.Replied reply) heard settles in
    refused_done old peers id moment octets host message reply terms own received same is.0 is.1

-- who is found by the shard is who opened the session by own entries
pub found_there : SameAreEqual → (engine : EngineView) (name host sid : List ℕ) (act : Act) (found : Found) → engine.shard.terms ≡ engine.setting.plan.terms → session_of_key act ≡ Some sid
    → Some name ≡ Some host → IsFound (opened engine.shard name sid) found → opener_of engine.setting.plan.terms (now_of engine) host act ≡ one_of found
found_there law engine name host sid act found terms session named is =
    let same_host : name ≡ host = cc in
    let shard = engine.shard in
    let under = engine.setting.plan.terms in
    let there : IsFound (λ sub. was_opened_from shard.terms (held shard sub) host sid) found =
    subst (λ (h : List ℕ). IsFound (λ sub. was_opened_from shard.terms (held shard sub) h sid) found) same_host is in
    let here : IsFound (λ sub. was_opened_from under (held shard sub) host sid) found = subst (λ (t : TermsView). IsFound (λ sub. was_opened_from t (held shard sub) host sid) found) terms there in
    ap (option_and_then (λ (s : List ℕ). the_one (openers under (now_of engine) host s))) session
    ∙ found_is law (λ sub. was_opened_from under (held shard sub) host sid) (subs_in shard) (now_covers law under (peer_of engine) shard host sid) found here
