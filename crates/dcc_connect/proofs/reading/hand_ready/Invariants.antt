use Rattle.std.proofs.Common.{length}
use Rattle.dcc_message.specs.Streams.{messages}
use Rattle.dcc_connect.specs.Clocks.{timed}
use Rattle.dcc_connect.specs.Reading.{HandsOn}
use Rattle.dcc_connect.specs.inner.Steps.{HasPassed}
use Rattle.dcc_connect.proofs.reading.hand_ready.Given as goal

abbrev pub invariant-loop-message : goal.invariant-loop-message
invariant-loop-message g l = HasPassed (HandsOn (timed g.C.Clock.tells g.S.Submitter.hands)) l.fn.framer l.framer (l.fn.to, l.fn.clock) (l.to, l.clock)

abbrev pub decreases-loop-message : goal.decreases-loop-message
decreases-loop-message g l = length (messages l.framer)
