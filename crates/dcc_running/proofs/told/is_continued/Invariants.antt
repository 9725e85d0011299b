use Rattle.std.proofs.Common.{◌≡◌, drop}
use Rattle.std.specs.HashMap as hash
use Rattle.std.specs.Option.{option_or}
use Rattle.dcc_act.specs.declared.sub.Sub.{Sub}
use Rattle.dcc_act.specs.Subs.{same_sub}
use Rattle.dcc_receipts.specs.Audit.{own}
use Rattle.dcc_receipts.specs.Tops.{in_order_by}
use Rattle.dcc_running.specs.inner.Told.{top_in}
use Rattle.dcc_running.proofs.told.is_continued.Given as goal

abbrev pub invariant-loop-receipt : goal.invariant-loop-receipt
invariant-loop-receipt l =
    (sub : Sub) → in_order_by (option_or (hash.get same_sub l.later sub) (top_in l.tops.entries l.seat sub)) (own sub (drop l.receipt-index l.receipts))
    ≡ in_order_by (top_in l.tops.entries l.seat sub) (own sub l.receipts)
