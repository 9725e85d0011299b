use Rattle.dcc_connect.specs.Clocks.{timed}
use Rattle.dcc_connect.specs.inner.Answering.{HasServed}
use Rattle.dcc_connect.proofs.connection.serve_connection.Given as goal

abbrev pub invariant-loop-turn : goal.invariant-loop-turn
invariant-loop-turn g l =
    HasServed (timed g.C.Clock.tells g.A.Answerer.answers) l.turn l.turns (g.I.Read.remaining l.fn.input) (g.I.Read.remaining l.input) (g.O.Write.contents l.fn.output) (g.O.Write.contents l.output)
    l.framer (l.fn.answerer, l.fn.clock) (l.answerer, l.clock) (record { left = l.tally.left; written = l.tally.written })
