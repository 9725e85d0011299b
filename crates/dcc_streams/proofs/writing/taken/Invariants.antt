use Rattle.std.proofs.Common.{◌≤◌, length, take}
use Rattle.std.specs.Io.KnownBytes.{Appends}
use Rattle.dcc_streams.proofs.writing.taken.Given as goal

abbrev pub invariant-loop : goal.invariant-loop
invariant-loop g l = (l.written ≤ length l.text) × Appends (g.W.Write.contents l.initial.output) (g.W.Write.contents l.output) (take l.written l.text)
