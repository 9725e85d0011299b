use Rattle.std.proofs.Common.{◌≡◌}
use Rattle.dcc_port.specs.Sheets.{files}
use Rattle.dcc_port.proofs.backup.files.Given as goal

abbrev pub invariant-loop-index : goal.invariant-loop-index
invariant-loop-index l = l.text.items ≡ files l.index
