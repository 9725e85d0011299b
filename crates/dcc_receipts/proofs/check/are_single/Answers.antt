use Rattle.std.proofs.Common.{sym, ◌∙◌}
use Rattle.dcc_receipts.proofs.Singles.{singles, doubles}
use Rattle.dcc_receipts.proofs.check.are_single.Goals as goal

pub returns-clause-yes : goal.returns-clause-yes
returns-clause-yes c = λ yes. singles c.args.receipts.now (sym c.each_is_single.ensures ∙ yes)

pub returns-clause-no : goal.returns-clause-no
returns-clause-no c = λ no. doubles c.args.receipts.now (sym c.each_is_single.ensures ∙ no)
