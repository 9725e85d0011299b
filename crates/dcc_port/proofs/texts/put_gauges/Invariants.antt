use Rattle.std.proofs.Common.{◌≡◌, ◌++◌, drop}
use Rattle.dcc_port.specs.Sheets.{gauges}
use Rattle.dcc_port.proofs.texts.put_gauges.Given as goal

abbrev pub invariant-loop-i : goal.invariant-loop-i
invariant-loop-i l = l.initial.text.items ++ gauges 0 l.told ≡ l.text.items ++ gauges l.i (drop l.i l.told)
