use Rattle.std.proofs.Common.{◌≡◌, drop, None}
use Rattle.dcc_receipts.specs.Tops.{in_order_by}
use Rattle.dcc_receipts.proofs.order.in_order_by_top.Given as goal

abbrev pub invariant-loop-receipt : goal.invariant-loop-receipt
invariant-loop-receipt l = in_order_by l.top (drop l.receipt-index l.receipts) ≡ in_order_by None l.receipts
