use Rattle.std.proofs.Common.{rules, false, length, List, refl, subst}
use Rattle.dcc_act.specs.declared.sub.Sub.{Sub}
use Rattle.dcc_shard.specs.Answers.{expiry_act}
use Rattle.dcc_dispatch.specs.Settings.{Setting}
use Rattle.dcc_engine.specs.Asks.{out_sweep}
use Rattle.dcc_engine.specs.Engines.{EngineView, peer_in}
use Rattle.dcc_engine.specs.inner.Sweeps.{IsSwept}
use Rattle.dcc_engine.specs.inner.Turns.{IsTurnDone}
use Rattle.dcc_engine.specs.declared.event.Event.TheVariants.{Sweep}
use Rattle.dcc_engine.proofs.Refusing.{none_in_order}
use Rattle.dcc_engine.proofs.Sweeps.{swept_judged}
use Rattle.dcc_engine.proofs.engine.Engine.sweep.Goals as goal

pub returns-in-Ok-expire_each-clause-done : goal.returns-in-Ok-expire_each-clause-done
returns-in-Ok-expire_each-clause-done g c =
    let inside = c.self.inside in
    let setting : Setting = record { plan = inside.plan; identity = inside.identity } in
    let new = c.expire_each.new.shards.shard in
    let moment = c.args.moment in
    let refused = c.in-Ok-expire_each.refused in
    let swept = subst (λ (subs : List Sub). IsSwept inside.shards.shard new subs refused (expiry_act moment)) c.deref.ensures.value c.in-Ok-expire_each.ensures.swept in
    let judged = swept_judged setting (peer_in inside.peers.rows) inside.shards.shard new moment c.in-Ok.subs.items refused c.self.invariant.0 c.self.invariant.2 c.in-Ok.ensures.some c.in-Ok.ensures.none swept in
    let before : EngineView = record { setting = setting; peers = inside.peers; shard = inside.shards.shard; shards = length inside.shards.parts } in
    let after : EngineView = record { setting = setting; peers = inside.peers; shard = new; shards = length c.expire_each.new.shards.parts } in
    let done : IsTurnDone before after (record { event = Sweep moment; out = out_sweep refused false }) = record { judged = judged; peers = λ id. refl; setting = refl } in
    subst (λ (engine : EngineView). IsTurnDone engine after (record { event = Sweep moment; out = c.sweeping-in-Ok-expire_each.result })) c.self.view_is
    (rw c.sweeping-in-Ok-expire_each.ensures done)

pub returns-in_default-clause-order : goal.returns-in_default-clause-order
returns-in_default-clause-order g c = none_in_order _ c.sweeping.result.refused (search rules)

pub returns-clause-order : goal.returns-clause-order
returns-clause-order g c = none_in_order _ c.sweeping-in-Err.result.refused (search rules)
