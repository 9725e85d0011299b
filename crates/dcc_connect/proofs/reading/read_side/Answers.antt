use Rattle.dcc_connect.specs.Clocks.{timed}
use Rattle.dcc_connect.specs.Reading.{HandsOn}
use Rattle.dcc_connect.proofs.Turning.{fed, drained, hands_end, read_fault}
use Rattle.dcc_connect.proofs.reading.read_side.Goals as goal

pub returns-in-Err-clause-handed : goal.returns-in-Err-clause-handed
returns-in-Err-clause-handed g c =
    read_fault (timed g.C.Clock.tells g.S.Submitter.hands) c.in-Err.fault c.loop-turn.turn c.args.turns _ _ _ _ _ _ _ c.loop-turn.invariant c.loop-turn-test.true c.in-Err.ensures

pub returns-in-Err-hand_ready-clause-handed : goal.returns-in-Err-hand_ready-clause-handed
returns-in-Err-hand_ready-clause-handed g c =
    hands_end (timed g.C.Clock.tells g.S.Submitter.hands) c.in-Err-hand_ready.end c.loop-turn.turn c.args.turns _ _ _ _ _ _ _
    (fed (HandsOn (timed g.C.Clock.tells g.S.Submitter.hands)) c.stream_laws.ensures _ _ _ _ _ _ _ _ c.loop-turn.invariant (rw c.in-Ok-Fed.field-0-is at c.in-Ok-Fed.ensures)) c.loop-turn-test.true c.in-Err-hand_ready.ensures

pub loop-turn-preserved : goal.loop-turn-preserved
loop-turn-preserved g c =
    drained (HandsOn (timed g.C.Clock.tells g.S.Submitter.hands)) _ _ _ _ _ _ _ _
    (fed (HandsOn (timed g.C.Clock.tells g.S.Submitter.hands)) c.stream_laws.ensures _ _ _ _ _ _ _ _ c.loop-turn.invariant (rw c.in-Ok-Fed.field-0-is at c.in-Ok-Fed.ensures))
    c.in_default.ensures.0 c.in_default.ensures.1
