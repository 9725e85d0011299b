-- The acts of receipts.
use Rattle.std.specs.Prelude.{ℕ, List, count_by}
use Rattle.dcc_receipts.specs.declared.receipt.Receipt.{Receipt}

-- the number of acts of these receipts: each act has one fresh receipt
abbrev pub acts_of : List Receipt → ℕ
acts_of receipts = count_by (λ (receipt : Receipt). receipt.fresh) receipts
