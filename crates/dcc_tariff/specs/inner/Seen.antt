-- The result of reading, as contracts see it.
use Rattle.std.specs.Prelude.{Result}
use Rattle.std.specs.Result.{result_map_both}
use Rattle.dcc_tariff.specs.declared.fault.PlanFault.{PlanFault}

abbrev pub seen_by : {X Y : Type 0} → (X → Y) → Result X PlanFault → Result Y PlanFault
seen_by seen read = result_map_both seen (λ fault. fault) read
