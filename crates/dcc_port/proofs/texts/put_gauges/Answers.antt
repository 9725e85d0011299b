use Rattle.std.proofs.Common.{false, get_or, refl}
use Rattle.dcc_port.proofs.Listing.{gauges_next, gauges_end}
use Rattle.dcc_port.proofs.texts.put_gauges.Goals as goal

pub loop-i-preserved : goal.loop-i-preserved
loop-i-preserved c =
    gauges_next c.args.told.now c.loop-i.i c.args.text.now.items c.loop-i.text.items c.put_gauge.new.text.items
    (get_or c.args.told.now c.loop-i.i false) c.loop-i-test.true refl c.in_ok-put_gauge.ensures c.loop-i.invariant

pub returns : goal.returns
returns c = gauges_end c.args.told.now c.loop-i.i c.args.text.now.items c.loop-i.text.items c.loop-i-test.false c.loop-i.invariant
