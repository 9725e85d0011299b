use Rattle.std.proofs.Common.{rules, ◌≡◌, length, refl, sym, subst}
use Rattle.dcc_dispatch.specs.Settings.{Setting}
use Rattle.dcc_engine.specs.Asks.{out_top_up}
use Rattle.dcc_engine.specs.Engines.{EngineView, peer_in}
use Rattle.dcc_engine.specs.inner.Turns.{IsTurnDone}
use Rattle.dcc_engine.specs.declared.event.Event.TheVariants.{TopUp}
use Rattle.dcc_engine.proofs.Refusing.{none_in_order}
use Rattle.dcc_engine.proofs.TopUps.{top_up_judged}
use Rattle.dcc_engine.proofs.engine.Engine.step.Goals as goal
use Rattle.dcc_engine.proofs.engine.Engine.step.Goals.{in-Some-2, in-None-2}

pub returns-in-TopUp-clause-done : goal.returns-in-TopUp-clause-done
returns-in-TopUp-clause-done g c =
    let inside = c.self-in-TopUp.inside in
    let setting : Setting = record { plan = inside.plan; identity = inside.identity } in
    let old = inside.shards.shard in
    let new = c.top_up-answer.new.self.shard in
    let t = c.in-TopUp in
    let answer = c.top_up-answer.result in
    let after : EngineView = record { setting = setting; peers = inside.peers; shard = new; shards = length c.top_up-answer.new.self.parts } in
    let left_is : after ≡ c.match-host-2.self = elim c.match-host-2.branch [ in-Some-2 w ↦ sym w.self-is | in-None-2 w ↦ sym w.self-is ] in
    let judged = top_up_judged c.same_subscribers_are_equal.ensures setting (peer_in inside.peers.rows) old new t.moment t.sub t.ticket t.amount answer
    c.self-in-TopUp.invariant.0 c.self-in-TopUp.invariant.2 c.top_up-answer.ensures.answer c.top_up-answer.ensures.step in
    let before : EngineView = record { setting = setting; peers = inside.peers; shard = old; shards = length inside.shards.parts } in
    let done : IsTurnDone before after (record { event = TopUp t.moment t.sub t.ticket t.amount; out = out_top_up answer }) = record { judged = judged; peers = λ id. refl; setting = refl } in
    let whole = subst (λ (engine : EngineView). IsTurnDone engine after (record { event = TopUp t.moment t.sub t.ticket t.amount; out = c.telling.result })) c.self-in-TopUp.view_is (rw c.telling.ensures done) in
    let done_here : IsTurnDone c.args.self.now after (record { event = c.args.event.now; out = c.telling.result }) = rw t.is whole in
    subst (λ (engine : EngineView). IsTurnDone c.args.self.now engine (record { event = c.args.event.now; out = c.telling.result })) left_is done_here

pub returns-in-Connect-clause-order : goal.returns-in-Connect-clause-order
returns-in-Connect-clause-order g c = none_in_order _ c.quiet.result.refused (search rules)

pub returns-in-Disconnect-clause-order : goal.returns-in-Disconnect-clause-order
returns-in-Disconnect-clause-order g c = none_in_order _ c.quiet-in-Disconnect.result.refused (search rules)

pub returns-in-TopUp-clause-order : goal.returns-in-TopUp-clause-order
returns-in-TopUp-clause-order g c = none_in_order _ c.telling.result.refused (search rules)

pub returns-in-Message-clause-order : goal.returns-in-Message-clause-order
returns-in-Message-clause-order g c = none_in_order _ c.hear.result.refused (search rules)
