-- Fresh receipts of a subscriber's place, one by one.
use Rattle.std.specs.Prelude.{ℕ, Bool, ◌&&◌, ◌==◌}
use Rattle.dcc_act.specs.declared.sub.Sub.{Sub}
use Rattle.dcc_act.specs.Subs.{same_sub}
use Rattle.dcc_receipts.specs.declared.receipt.Receipt.{Receipt}

-- the receipt is fresh and of this subscriber's place
abbrev pub is_of : Sub → ℕ → Receipt → Bool
is_of sub place r = same_sub r.sub sub && (r.fresh && (r.place == place))
