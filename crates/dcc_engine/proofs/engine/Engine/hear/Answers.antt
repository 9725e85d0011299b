use Rattle.std.proofs.Common.{length, List, ℕ, subst}
use Rattle.dcc_dispatch.specs.Settings.{Setting}
use Rattle.dcc_dispatch.specs.declared.decide.Dispatched.{Dispatched}
use Rattle.dcc_engine.specs.Engines.{EngineView}
use Rattle.dcc_engine.specs.inner.Turns.{IsHeard, IsTurnDone}
use Rattle.dcc_engine.specs.declared.event.Event.TheVariants.{Message}
use Rattle.dcc_engine.proofs.Hearing.{replied_done}
use Rattle.dcc_engine.proofs.Seeking.{engine_with, asked_done, sought_done, sought_request, unfound_done}
use Rattle.dcc_engine.proofs.engine.Engine.hear.Goals as goal

pub ask-requires-in-Asked-settle : goal.ask-requires-in-Asked-settle
ask-requires-in-Asked-settle g c =
    let inside = c.self.inside in
    let setting : Setting = record { plan = inside.plan; identity = inside.identity } in
    let before : EngineView = record { setting = setting; peers = inside.peers; shard = inside.shards.shard; shards = length inside.shards.parts } in
    let peers = c.hear.new.self in
    let id = c.args.peer in
    let moment = c.args.moment in
    let octets = c.args.octets.now in
    let read = subst (λ (bs : List ℕ). IsHeard setting inside.peers.rows peers.rows id moment bs c.in-Some.made) c.as_slice.ensures c.in-Some.ensures.heard in
    let heard = subst (λ (made : Dispatched). IsHeard setting inside.peers.rows peers.rows id moment octets made) c.in-Sought.is read in
    sought_request before peers id moment octets c.in-Sought.sought c.in-Asked-settle.asked heard c.in-Asked-settle.ensures

pub returns-in-Replied-clause-done : goal.returns-in-Replied-clause-done
returns-in-Replied-clause-done g c =
    let inside = c.self.inside in
    let setting : Setting = record { plan = inside.plan; identity = inside.identity } in
    let before : EngineView = record { setting = setting; peers = inside.peers; shard = inside.shards.shard; shards = length inside.shards.parts } in
    let peers = c.hear.new.self in
    let id = c.args.peer in
    let moment = c.args.moment in
    let octets = c.args.octets.now in
    let read = subst (λ (bs : List ℕ). IsHeard setting inside.peers.rows peers.rows id moment bs c.in-Some.made) c.as_slice.ensures c.in-Some.ensures.heard in
    let heard = subst (λ (made : Dispatched). IsHeard setting inside.peers.rows peers.rows id moment octets made) c.in-Replied.is read in
    let done = replied_done before peers id moment octets heard.from heard.to c.in-Replied.reply c.self.invariant.0 c.self.invariant.2 heard.from_is heard.replied heard.rows in
    subst (λ (engine : EngineView). IsTurnDone engine (engine_with before peers before.shard before.shards) (record { event = Message id moment octets; out = c.replying.result })) c.self.view_is
    (rw c.replying.ensures done)

pub returns-in-Asked-clause-done : goal.returns-in-Asked-clause-done
returns-in-Asked-clause-done g c =
    let inside = c.self.inside in
    let setting : Setting = record { plan = inside.plan; identity = inside.identity } in
    let before : EngineView = record { setting = setting; peers = inside.peers; shard = inside.shards.shard; shards = length inside.shards.parts } in
    let peers = c.hear.new.self in
    let id = c.args.peer in
    let moment = c.args.moment in
    let octets = c.args.octets.now in
    let read = subst (λ (bs : List ℕ). IsHeard setting inside.peers.rows peers.rows id moment bs c.in-Some.made) c.as_slice.ensures c.in-Some.ensures.heard in
    let heard = subst (λ (made : Dispatched). IsHeard setting inside.peers.rows peers.rows id moment octets made) c.in-Asked.is read in
    let done = asked_done c.same_subscribers_are_equal.ensures before peers c.ask.new.shards.shard (length c.ask.new.shards.parts) id moment octets c.in-Asked.asked c.ask.result
    c.self.invariant.1 c.self.invariant.0 c.self.invariant.2 heard c.ask.ensures.handed in
    subst (λ (engine : EngineView). IsTurnDone engine (engine_with before peers c.ask.new.shards.shard (length c.ask.new.shards.parts)) (record { event = Message id moment octets; out = c.sending.result })) c.self.view_is
    (rw c.sending.ensures done)

pub returns-in-Replied-settle-clause-done : goal.returns-in-Replied-settle-clause-done
returns-in-Replied-settle-clause-done g c =
    let inside = c.self.inside in
    let setting : Setting = record { plan = inside.plan; identity = inside.identity } in
    let before : EngineView = record { setting = setting; peers = inside.peers; shard = inside.shards.shard; shards = length inside.shards.parts } in
    let peers = c.hear.new.self in
    let id = c.args.peer in
    let moment = c.args.moment in
    let octets = c.args.octets.now in
    let read = subst (λ (bs : List ℕ). IsHeard setting inside.peers.rows peers.rows id moment bs c.in-Some.made) c.as_slice.ensures c.in-Some.ensures.heard in
    let heard = subst (λ (made : Dispatched). IsHeard setting inside.peers.rows peers.rows id moment octets made) c.in-Sought.is read in
    let done = unfound_done before peers id moment octets c.in-Sought.sought c.in-Replied-settle.reply c.self.invariant.0 c.self.invariant.2 heard c.in-Replied-settle.ensures in
    subst (λ (engine : EngineView). IsTurnDone engine (engine_with before peers before.shard before.shards) (record { event = Message id moment octets; out = c.replying-in-Replied-settle.result })) c.self.view_is
    (rw c.replying-in-Replied-settle.ensures done)

pub returns-in-Asked-settle-clause-done : goal.returns-in-Asked-settle-clause-done
returns-in-Asked-settle-clause-done g c =
    let inside = c.self.inside in
    let setting : Setting = record { plan = inside.plan; identity = inside.identity } in
    let before : EngineView = record { setting = setting; peers = inside.peers; shard = inside.shards.shard; shards = length inside.shards.parts } in
    let peers = c.hear.new.self in
    let id = c.args.peer in
    let moment = c.args.moment in
    let octets = c.args.octets.now in
    let read = subst (λ (bs : List ℕ). IsHeard setting inside.peers.rows peers.rows id moment bs c.in-Some.made) c.as_slice.ensures c.in-Some.ensures.heard in
    let heard = subst (λ (made : Dispatched). IsHeard setting inside.peers.rows peers.rows id moment octets made) c.in-Sought.is read in
    let done = sought_done c.same_subscribers_are_equal.ensures before peers c.ask-in-Asked-settle.new.shards.shard (length c.ask-in-Asked-settle.new.shards.parts) id moment octets c.in-Sought.sought c.in-Asked-settle.asked
    c.ask-in-Asked-settle.result c.self.invariant.1 c.self.invariant.0 c.self.invariant.2 heard c.in-Asked-settle.ensures c.ask-in-Asked-settle.ensures.handed in
    subst (λ (engine : EngineView). IsTurnDone engine (engine_with before peers c.ask-in-Asked-settle.new.shards.shard (length c.ask-in-Asked-settle.new.shards.parts)) (record { event = Message id moment octets; out = c.sending-in-Asked-settle.result })) c.self.view_is
    (rw c.sending-in-Asked-settle.ensures done)
