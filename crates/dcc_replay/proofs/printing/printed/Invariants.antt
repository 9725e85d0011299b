use Rattle.std.proofs.Common.{◌≡◌, ◌+◌, ◌++◌, drop, string_bytes}
use Rattle.dcc_replay.specs.Printed.{lines_from}
use Rattle.dcc_replay.proofs.printing.printed.Given as goal

abbrev pub invariant-loop-i : goal.invariant-loop-i
invariant-loop-i l = string_bytes l.text ++ lines_from (l.i + 1) (drop l.i l.outs) ≡ lines_from 1 l.outs
