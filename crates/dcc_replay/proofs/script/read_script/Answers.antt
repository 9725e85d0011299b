use Rattle.std.proofs.Common.{sym, ◌∙◌}
use Rattle.dcc_replay.proofs.ScriptLemmas.{remark_step, event_step, fault_step, last_step}
use Rattle.dcc_replay.proofs.script.read_script.Goals as goal

pub returns-in-None-clause-err : goal.returns-in-None-clause-err
returns-in-None-clause-err c =
    fault_step c.args.text.now c.deref-line-items.result.now c.loop-i.i _ c.loop-i.events.items
    (rw c.deref-line-items.ensures.value c.in_ok-lines.ensures) c.loop-i.invariant
    c.loop-i-test.true (sym c.if-is_remark.ensures) (sym c.in_ok-event.ensures ∙ c.in-None.is)

pub returns-clause-ok : goal.returns-clause-ok
returns-clause-ok c =
    last_step c.args.text.now c.deref-line-items.result.now c.loop-i.i c.loop-i.events.items
    (rw c.deref-line-items.ensures.value c.in_ok-lines.ensures) c.loop-i.invariant
    c.loop-i-test.false

pub loop-i-preserved-then-is_remark : goal.loop-i-preserved-then-is_remark
loop-i-preserved-then-is_remark c =
    remark_step c.deref-line-items.result.now c.loop-i.i _ c.loop-i.events.items _ c.loop-i.invariant c.loop-i-test.true
    (sym c.if-is_remark.ensures)

pub loop-i-preserved : goal.loop-i-preserved
loop-i-preserved c =
    event_step c.deref-line-items.result.now c.loop-i.i _ c.loop-i.events.items c.push.new.self.items c.in-Some.event _ c.loop-i.invariant
    c.loop-i-test.true (sym c.if-is_remark.ensures) (sym c.in_ok-event.ensures ∙ c.in-Some.is) c.in_ok-push-in-Some.ensures.items
