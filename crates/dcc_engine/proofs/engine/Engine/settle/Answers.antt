use Rattle.std.proofs.Common.{length, subst, sym, ◌∙◌}
use Rattle.dcc_dispatch.specs.Settings.{Setting}
use Rattle.dcc_engine.specs.Engines.{EngineView}
use Rattle.dcc_engine.specs.Openers.{opener_of}
use Rattle.dcc_engine.specs.inner.Turns.{now_of}
use Rattle.dcc_engine.proofs.Seeking.{Settles, found_there}
use Rattle.dcc_engine.proofs.engine.Engine.settle.Goals as goal

pub returns : goal.returns
returns g c =
    let inside = c.self.inside in
    let setting : Setting = record { plan = inside.plan; identity = inside.identity } in
    let engine : EngineView = record { setting = setting; peers = inside.peers; shard = inside.shards.shard; shards = length inside.shards.parts } in
    let sought = c.args.sought in
    subst (λ (e : EngineView). Settles e c.args.peer sought c.settle.result) c.self.view_is
    (λ host message verdict named is.
    let found = found_there c.same_subscribers_are_equal.ensures engine c.in-Some.host.now host c.session.result.now sought.act c.find-found.result c.self.invariant.0 c.session.ensures
    (c.in-Some.ensures ∙ named) c.find-found.ensures in
    c.settle.ensures message verdict (opener_of setting.plan.terms (now_of engine) host) is (found ∙ sym c.one.ensures))
