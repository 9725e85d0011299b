use Rattle.std.proofs.Common.{sym, ◌∙◌}
use Rattle.dcc_port.proofs.LineLemmas.{remark_step, ask_step, fault_step, last_step}
use Rattle.dcc_port.proofs.lines.read_asks.Goals as goal

pub returns-in-None : goal.returns-in-None
returns-in-None c =
    sym (fault_step c.args.text.now c.deref-line-items.result.now c.loop-i.i _ c.loop-i.asks
    (rw c.deref-line-items.ensures.value c.in_ok-lines.ensures) c.loop-i.invariant
    c.loop-i-test.true (sym c.if-is_remark.ensures) (sym c.in_ok-ask.ensures ∙ c.in-None.is))

pub returns : goal.returns
returns c =
    sym (last_step c.args.text.now c.deref-line-items.result.now c.loop-i.i c.loop-i.asks
    (rw c.deref-line-items.ensures.value c.in_ok-lines.ensures) c.loop-i.invariant
    c.loop-i-test.false)

pub loop-i-preserved-then-is_remark : goal.loop-i-preserved-then-is_remark
loop-i-preserved-then-is_remark c =
    remark_step c.deref-line-items.result.now c.loop-i.i _ c.loop-i.asks _ c.loop-i.invariant c.loop-i-test.true
    (sym c.if-is_remark.ensures)

pub loop-i-preserved : goal.loop-i-preserved
loop-i-preserved c =
    ask_step c.deref-line-items.result.now c.loop-i.i _ c.loop-i.asks c.push.new.self c.in-Some.ask _ c.loop-i.invariant
    c.loop-i-test.true (sym c.if-is_remark.ensures) (sym c.in_ok-ask.ensures ∙ c.in-Some.is) c.in_ok-push-in-Some.ensures
