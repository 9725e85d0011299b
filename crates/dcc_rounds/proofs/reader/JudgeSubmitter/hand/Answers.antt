use Rattle.std.proofs.Common.{◌≡◌, rules, refl, sym, ap, subst, ◌∙◌}
use Rattle.dcc_dispatch.specs.Messages.{host_name}
use Rattle.dcc_dispatch.specs.Settings.{Setting}
use Rattle.dcc_dispatch.specs.Verdicts.{verdict_of}
use Rattle.dcc_base.specs.declared.peer.Peer.{Peer}
use Rattle.dcc_rounds.specs.Handing.{IsDispatched, reading_of}
use Rattle.dcc_rounds.proofs.Handings.{same_on}
use Rattle.dcc_rounds.proofs.Settling.{settled_from}
use Rattle.dcc_rounds.proofs.reader.JudgeSubmitter.hand.Goals as goal

pub pass_on-handed-requires : goal.pass_on-handed-requires
pass_on-handed-requires g c =
    let setting : Setting = record { plan = c.args.self.now.plan.now; identity = c.args.self.now.identity.now } in
    c.settle-settled.ensures.request c.args.message.now (verdict_of setting c.args.moment (host_name c.args.self.now.reader.now.peer)) c.dispatch-dispatched.ensures.asked c.dispatch-dispatched.ensures.sought

pub returns : goal.returns
returns g c =
    let setting : Setting = record { plan = c.args.self.now.plan.now; identity = c.args.self.now.identity.now } in
    let old = c.args.self.now.reader.now in
    let d = c.dispatch-dispatched in
    let by = c.settle-settled.ensures.settled setting c.args.message.now (verdict_of setting c.args.moment (host_name old.peer)) refl d.ensures.sought in
    let same = same_on _ _ _ c.pass_on-handed.ensures.same c.sweep.ensures.same in
    let peer_is = c.sweep.ensures.peer ∙ c.pass_on-handed.ensures.peer in
    let dispatched : IsDispatched setting c.args.moment c.args.message.now old.peer d.new.peer d.result = (d.ensures.charging, d.ensures.asked, d.ensures.sought, d.ensures.kept, d.ensures.replied) in (
      (
        d.result,
        c.settle-settled.result,
        reading_of c.pass_on-handed.new.self,
        subst (λ (peer : Peer). IsDispatched setting c.args.moment c.args.message.now old.peer peer d.result) (sym peer_is) dispatched,
        settled_from setting c.args.self.now.shards.now.count c.args.message.now d.result c.settle-settled.result old.peer d.new.peer d.ensures.kept by,
        c.pass_on-handed.ensures.passed,
        c.sweep.ensures.asked,
        record { gate = same.gate; workers = same.workers; writer = same.writer },
      ),
      refl,
      refl,
      refl,
      refl,
    )
