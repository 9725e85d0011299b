use Rattle.std.proofs.Common.{◌≡◌, [], drop}
use Rattle.dcc_port.specs.Sheets.{listed}
use Rattle.dcc_port.proofs.texts.listed.Given as goal

abbrev pub invariant-loop-i : goal.invariant-loop-i
invariant-loop-i l = listed 0 l.told [] ≡ listed l.i (drop l.i l.told) l.text.items
