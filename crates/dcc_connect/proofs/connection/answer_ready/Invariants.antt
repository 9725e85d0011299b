use Rattle.std.proofs.Common.{length}
use Rattle.dcc_message.specs.Streams.{messages}
use Rattle.dcc_connect.specs.Clocks.{timed}
use Rattle.dcc_connect.specs.inner.Answering.{HasAnswered}
use Rattle.dcc_connect.proofs.connection.answer_ready.Given as goal

abbrev pub invariant-loop-message : goal.invariant-loop-message
invariant-loop-message g l =
    HasAnswered (timed g.C.Clock.tells g.A.Answerer.answers) l.fn.framer l.framer (l.fn.answerer, l.fn.clock) (l.answerer, l.clock) (g.O.Write.contents l.fn.output) (g.O.Write.contents l.output)
    (record { left = l.fn.tally.left; written = l.fn.tally.written }) (record { left = l.tally.left; written = l.tally.written })

abbrev pub decreases-loop-message : goal.decreases-loop-message
decreases-loop-message g l = length (messages l.framer)
