use Rattle.std.proofs.Common.{[]}
use Rattle.std.specs.Io.KnownBytes.{Appends}
use Rattle.dcc_connect.proofs.sending.write_once.Given as goal

abbrev pub invariant-loop : goal.invariant-loop
invariant-loop g l = Appends (g.O.Write.contents l.fn.output) (g.O.Write.contents l.output) []
