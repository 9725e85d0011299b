-- No place has two fresh receipts, tested receipt by receipt.
use Rattle.std.specs.Prelude.{ℕ, Bool, not, ◌||◌, nat_le, List}
use Rattle.std.specs.List.{list_all}
use Rattle.dcc_receipts.specs.Audit.{times}
use Rattle.dcc_receipts.specs.declared.receipt.Receipt.{Receipt}

-- each fresh receipt is the only fresh receipt of its place
abbrev pub are_single : (all receipts : List Receipt) → Bool
are_single all receipts = list_all (λ r. not r.fresh || nat_le (times r.place all) 1) receipts
