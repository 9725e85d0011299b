use Rattle.dcc_metrics.specs.Pages.{family_text}
use Rattle.dcc_metrics.proofs.Lines.{lines_next, lines_end}
use Rattle.dcc_metrics.proofs.page.put_family.Goals as goal

pub loop-i-preserved : goal.loop-i-preserved
loop-i-preserved c =
    lines_next c.args.family c.args.numbers.now c.loop-i.i c.loop-i.page.items c.put_number.new.page.items _ c.loop-i-test.true
    c.in_ok-put_number.ensures c.loop-i.invariant

pub returns : goal.returns
unfolding family_text
returns c = lines_end c.args.family c.args.numbers.now c.loop-i.i c.loop-i.page.items _ c.loop-i-test.false c.loop-i.invariant
