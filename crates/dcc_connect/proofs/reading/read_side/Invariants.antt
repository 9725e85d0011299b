use Rattle.dcc_connect.specs.Clocks.{timed}
use Rattle.dcc_connect.specs.Reading.{HandsOn}
use Rattle.dcc_connect.specs.inner.Steps.{HasRead}
use Rattle.dcc_connect.proofs.reading.read_side.Given as goal

abbrev pub invariant-loop-turn : goal.invariant-loop-turn
invariant-loop-turn g l = HasRead (HandsOn (timed g.C.Clock.tells g.S.Submitter.hands)) l.turn (g.I.Read.remaining l.fn.input) (g.I.Read.remaining l.input) l.framer (l.fn.to, l.fn.clock) (l.to, l.clock)
