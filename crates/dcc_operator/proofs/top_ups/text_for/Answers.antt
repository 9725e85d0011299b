use Rattle.dcc_operator.proofs.LineTexts.{last_line}
use Rattle.dcc_operator.proofs.top_ups.text_for.Goals as goal

pub returns : goal.returns
returns c = last_line c.args.asks.now c.args.answers.now c.loop-i.i c.loop-i.text.items _ c.loop-i-test.false c.loop-i.invariant
