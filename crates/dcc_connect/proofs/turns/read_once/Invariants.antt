use Rattle.std.proofs.Common.{[]}
use Rattle.std.specs.Io.KnownBytes.{Consumes}
use Rattle.dcc_connect.proofs.turns.read_once.Given as goal

abbrev pub invariant-loop : goal.invariant-loop
invariant-loop g l = Consumes (g.I.Read.remaining l.fn.input) (g.I.Read.remaining l.input) []
