use Rattle.dcc_connect.specs.Clocks.{timed}
use Rattle.dcc_connect.proofs.Replying.{serve_begun, serve_on, serve_fault, serve_stops}
use Rattle.dcc_connect.proofs.connection.serve_connection.Goals as goal

pub loop-turn-init : goal.loop-turn-init
loop-turn-init g c =
    serve_begun (timed g.C.Clock.tells g.A.Answerer.answers) c.stream_laws.ensures _ _ _ _ _ _ c.new-framer.ensures c.new-tally.ensures.left c.new-tally.ensures.written

pub returns-in-Err-clause-served : goal.returns-in-Err-clause-served
returns-in-Err-clause-served g c =
    serve_fault (timed g.C.Clock.tells g.A.Answerer.answers) c.in-Err.fault c.loop-turn.turn c.args.turns _ _ _ _ _ _ _ _ _ _ c.loop-turn.invariant c.loop-turn-test.true c.in-Err.ensures

pub returns-in-Err-answer_ready-clause-served : goal.returns-in-Err-answer_ready-clause-served
returns-in-Err-answer_ready-clause-served g c =
    serve_stops (timed g.C.Clock.tells g.A.Answerer.answers) c.in-Err-answer_ready.end c.stream_laws.ensures c.loop-turn.turn c.args.turns _ _ _ _ _ _ _ _ _ _ _ _ _ _ _
    c.loop-turn.invariant c.loop-turn-test.true c.if-not-spend.ensures.left c.if-not-spend.ensures.written (rw c.in-Ok-Fed.field-0-is at c.in-Ok-Fed.ensures) c.in-Err-answer_ready.ensures

pub loop-turn-preserved : goal.loop-turn-preserved
loop-turn-preserved g c =
    serve_on (timed g.C.Clock.tells g.A.Answerer.answers) c.stream_laws.ensures _ _ _ _ _ _ _ _ _ _ _ _ _ _ _ _ _
    c.loop-turn.invariant c.if-not-spend.ensures.left c.if-not-spend.ensures.written (rw c.in-Ok-Fed.field-0-is at c.in-Ok-Fed.ensures) c.in_default.ensures
