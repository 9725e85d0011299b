use Rattle.std.proofs.Common.{◌≡◌, get_or, ap, sym, arith}
use Rattle.dcc_receipts.specs.Audit.{own, times}
use Rattle.dcc_running.specs.declared.lock.Side.{Side}
use Rattle.dcc_running.proofs.Telling.{told_none, told_some}
use Rattle.dcc_running.proofs.audit.is_told.Goals as goal

pub returns-then-has-clause-yes : goal.returns-then-has-clause-yes
returns-then-has-clause-yes c = λ _.
    told_some c.args.sub c.args.place c.args.sides.now c.loop-side.side-index c.side-item.result c.loop-side-test.true
    (let here : times c.args.place (own c.args.sub (get_or c.args.sides.now c.loop-side.side-index c.side-item.result).told.receipts) ≡ times c.args.place (own c.args.sub c.side-item.result.told.receipts) =
    ap (λ (s : Side). times c.args.place (own c.args.sub s.told.receipts)) (sym c.side-item.is) in omega (arith, here, c.has.ensures.yes c.if-has.true))

pub returns-clause-no : goal.returns-clause-no
returns-clause-no c = λ _.
    told_none c.args.sub c.args.place c.args.sides.now (λ i none within. c.loop-side.invariant i none (omega (arith, within, c.loop-side-test.false)))
