use Rattle.std.proofs.Common.{◌≡◌, ◌++◌, drop}
use Rattle.dcc_metrics.specs.Pages.{head_of, lines_of}
use Rattle.dcc_metrics.proofs.page.put_family.Given as goal

abbrev pub invariant-loop-i : goal.invariant-loop-i
invariant-loop-i l =
    l.page.items ++ lines_of l.family l.i (drop l.i l.numbers) ≡ l.fn.page.items ++ (head_of l.family ++ lines_of l.family 0 l.numbers)
