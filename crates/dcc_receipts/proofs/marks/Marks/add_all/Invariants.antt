use Rattle.std.proofs.Common.{◌≡◌, ℕ, ◌+◌, cond, take}
use Rattle.dcc_act.specs.declared.sub.Sub.{Sub}
use Rattle.dcc_receipts.specs.Audit.{own, times}
use Rattle.dcc_receipts.specs.Marks.{is_marked}
use Rattle.dcc_receipts.proofs.marks.Marks.add_all.Given as goal

abbrev pub invariant-loop-receipt : goal.invariant-loop-receipt
invariant-loop-receipt l =
    (sub : Sub) (place : ℕ) → cond (is_marked l.self sub place) 1 0 ≡ cond (is_marked l.fn.self sub place) 1 0 + times place (own sub (take l.receipt-index l.receipts))
