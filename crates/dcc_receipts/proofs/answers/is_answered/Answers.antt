use Rattle.std.proofs.Common.{arith, sym}
use Rattle.dcc_receipts.proofs.Outcomes.{answered_at, answered_past}
use Rattle.dcc_receipts.proofs.answers.is_answered.Goals as goal

pub returns-then-outcomes-receipt : goal.returns-then-outcomes-receipt
returns-then-outcomes-receipt c =
    sym (answered_past c.args.identity.now c.args.terms.now c.args.journal.now.acts c.args.outcomes.now c.args.receipt.now c.requires.own c.requires.came (omega arith) (omega arith))

pub returns : goal.returns
returns c =
    rw (answered_at c.args.identity.now c.args.terms.now c.args.journal.now.acts c.args.outcomes.now c.args.receipt.now c.index-outcomes-receipt.result c.requires.own c.requires.came (omega arith) (omega arith)
    c.index-outcomes-receipt.is)
    c.tells-2.ensures
