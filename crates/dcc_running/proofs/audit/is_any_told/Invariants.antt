use Rattle.std.proofs.Common.{◌≡◌, ℕ, ◌<◌, take}
use Rattle.dcc_act.specs.declared.sub.Sub.{Sub}
use Rattle.dcc_receipts.specs.Audit.{own, times}
use Rattle.dcc_running.specs.Audited.{times_in}
use Rattle.dcc_running.specs.Books.{told_in}
use Rattle.dcc_running.proofs.audit.is_any_told.Given as goal

abbrev pub invariant-loop-receipt : goal.invariant-loop-receipt
invariant-loop-receipt l = (sub : Sub) (place : ℕ) → 0 < times place (own sub (take l.receipt-index l.receipts)) → times_in sub place (told_in l.sides) ≡ 0
