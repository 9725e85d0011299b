use Rattle.std.proofs.Common.{rules, arith, ◌≡◌, ℕ, ◌<◌, ◌≤◌, true, length}
use Rattle.dcc_receipts.specs.Audit.{times, all_agree}
use Rattle.dcc_receipts.specs.Checks.{AreTrue, AreCovered, AreOrdered}
use Rattle.dcc_receipts.proofs.check.check_receipts.Goals as goal

pub returns-then-not-are_covered-clause-uncovered : goal.returns-then-not-are_covered-clause-uncovered
returns-then-not-are_covered-clause-uncovered c = λ _. (
  record { agree = search rules; single = c.are_single.ensures.yes (search rules) },
  λ covered. c.are_covered.ensures.no (search rules) (λ place pos upto. omega (arith, covered place pos upto)),
)

pub returns-then-not-in_order-clause-unordered : goal.returns-then-not-in_order-clause-unordered
returns-then-not-in_order-clause-unordered c = λ _. (
  record { agree = search rules; single = c.are_single.ensures.yes (search rules) },
  (λ place pos upto. omega (arith, c.are_covered.ensures.yes (search rules) place pos upto, c.are_single.ensures.yes (search rules) place)),
  search rules,
)

pub returns-clause-ok : goal.returns-clause-ok
returns-clause-ok c = (
  record { agree = search rules; single = c.are_single.ensures.yes (search rules) },
  (λ place pos upto. omega (arith, c.are_covered.ensures.yes (search rules) place pos upto, c.are_single.ensures.yes (search rules) place)),
  search rules,
)
