use Rattle.dcc_connect.specs.Clocks.{timed}
use Rattle.dcc_connect.proofs.Replying.{reply_begun, reply_on, reply_closes, reply_stops, reply_none, reply_err}
use Rattle.dcc_connect.proofs.connection.answer_ready.Goals as goal

pub loop-message-init : goal.loop-message-init
loop-message-init g c = reply_begun (timed g.C.Clock.tells g.A.Answerer.answers) _ _ _ _

pub returns-in_err-message : goal.returns-in_err-message
returns-in_err-message g c =
    reply_err (timed g.C.Clock.tells g.A.Answerer.answers) c.from_residual.result c.in_err-message.field-0.0 _ _ _ _ _ _ _ _ _ c.loop-message.invariant c.in_err-message.ensures c.from_residual.ensures.1

pub returns-in_err-send : goal.returns-in_err-send
returns-in_err-send g c =
    reply_stops (timed g.C.Clock.tells g.A.Answerer.answers) c.from_residual-in_err-send.result c.in_err-send.field-0.0 _ _ _ c.in-Some.message _ _ _ _ _ _ _ _ _ c.moment.result c.answer-reply.result c.loop-message.invariant
    (rw c.in-Some.is at c.in_ok-message.ensures) (c.moment.ensures, rw c.as_slice.ensures at c.answer-reply.ensures) (rw c.as_slice-in-Some.ensures at c.in_err-send.ensures) c.from_residual-in_err-send.ensures.1

pub returns-then-reply : goal.returns-then-reply
returns-then-reply g c =
    reply_closes (timed g.C.Clock.tells g.A.Answerer.answers) _ _ _ c.in-Some.message _ _ _ _ _ _ _ _ _ c.moment.result c.answer-reply.result c.loop-message.invariant
    (rw c.in-Some.is at c.in_ok-message.ensures) (c.moment.ensures, rw c.as_slice.ensures at c.answer-reply.ensures) (rw c.as_slice-in-Some.ensures at c.in_ok-send.ensures) c.if-reply.true

pub loop-message-preserved : goal.loop-message-preserved
loop-message-preserved g c =
    reply_on (timed g.C.Clock.tells g.A.Answerer.answers) _ _ _ c.in-Some.message _ _ _ _ _ _ _ _ _ c.moment.result c.answer-reply.result c.loop-message.invariant
    (rw c.in-Some.is at c.in_ok-message.ensures) (c.moment.ensures, rw c.as_slice.ensures at c.answer-reply.ensures) (rw c.as_slice-in-Some.ensures at c.in_ok-send.ensures) c.if-reply.false

pub returns : goal.returns
returns g c = reply_none (timed g.C.Clock.tells g.A.Answerer.answers) _ _ _ _ _ _ _ _ _ c.loop-message.invariant (rw c.in_default.is at c.in_ok-message.ensures)
