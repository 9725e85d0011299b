use Rattle.std.proofs.Common.{◌≡◌, drop, None}
use Rattle.std.specs.HashMap as hash
use Rattle.dcc_act.specs.declared.sub.Sub.{Sub}
use Rattle.dcc_act.specs.Subs.{same_sub}
use Rattle.dcc_receipts.specs.Audit.{own}
use Rattle.dcc_receipts.specs.Tops.{in_order_by}
use Rattle.dcc_receipts.proofs.order.each_in_order_by_tops.Given as goal

abbrev pub invariant-loop-receipt : goal.invariant-loop-receipt
invariant-loop-receipt l =
    (sub : Sub) → in_order_by (hash.get same_sub l.tops sub) (own sub (drop l.receipt-index l.receipts)) ≡ in_order_by None (own sub l.receipts)
