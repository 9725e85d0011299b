use Rattle.std.proofs.Common.{◌≤◌, length}
use Rattle.std.specs.Io.KnownBytes.{Consumes}
use Rattle.dcc_client.specs.declared.reading.TheConstants.{MOST_OCTETS}
use Rattle.dcc_client.proofs.reading.answer_of.Given as goal

abbrev pub invariant-loop-turn : goal.invariant-loop-turn
invariant-loop-turn g l =
    Consumes (g.R.Read.remaining l.initial.input) (g.R.Read.remaining l.input) l.text.items × (length l.text.items ≤ MOST_OCTETS)
