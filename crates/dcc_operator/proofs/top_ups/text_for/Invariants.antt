use Rattle.std.proofs.Common.{◌≡◌, ◌++◌, drop}
use Rattle.dcc_operator.specs.Many.{lines_for}
use Rattle.dcc_operator.proofs.top_ups.text_for.Given as goal

abbrev pub invariant-loop-i : goal.invariant-loop-i
invariant-loop-i l = l.text.items ++ lines_for (drop l.i l.fn.asks) (drop l.i l.fn.answers) ≡ lines_for l.fn.asks l.fn.answers
