use Rattle.std.proofs.Common.{◌∙◌, sym, Ok, None}
use Rattle.dcc_connect.specs.Clocks.{timed}
use Rattle.dcc_connect.specs.inner.Steps.{Nexts}
use Rattle.dcc_connect.specs.Reading.{HandsOn, HandsLast}
use Rattle.dcc_connect.proofs.Passing.{pass_all, pass_on, pass_one, pass_up_to, last_one, all_none, hands_err}
use Rattle.dcc_connect.proofs.reading.hand_ready.Goals as goal

pub returns-in_err-message : goal.returns-in_err-message
returns-in_err-message g c =
    hands_err (HandsOn (timed g.C.Clock.tells g.S.Submitter.hands)) (HandsLast (timed g.C.Clock.tells g.S.Submitter.hands)) c.from_residual.result c.in_err-message.field-0.0 _ _ _ _ _ c.loop-message.invariant c.in_err-message.ensures c.from_residual.ensures.1

pub returns-in-Closes : goal.returns-in-Closes
returns-in-Closes g c =
    pass_up_to (HandsOn (timed g.C.Clock.tells g.S.Submitter.hands)) (HandsLast (timed g.C.Clock.tells g.S.Submitter.hands)) _ _ _ _ _ c.loop-message.invariant
    (last_one (HandsOn (timed g.C.Clock.tells g.S.Submitter.hands)) (HandsLast (timed g.C.Clock.tells g.S.Submitter.hands)) _ _ c.in-Some.message _ _ (rw c.in-Some.is at c.in_ok-message.ensures) (c.moment.result, (c.moment.ensures, rw c.as_slice.ensures at c.in-Closes.ensures)))

pub loop-message-preserved : goal.loop-message-preserved
loop-message-preserved g c =
    pass_on (HandsOn (timed g.C.Clock.tells g.S.Submitter.hands)) _ _ _ _ _ _ c.loop-message.invariant
    (pass_one (HandsOn (timed g.C.Clock.tells g.S.Submitter.hands)) _ _ c.in-Some.message _ _ (rw c.in-Some.is at c.in_ok-message.ensures) (c.moment.result, (c.moment.ensures, rw c.as_slice.ensures at c.in-Stays.ensures)))

pub returns : goal.returns
returns g c =
    let none : Nexts (Ok None) c.loop-message.framer c.next_message.new.framer = rw c.in_default.is at c.in_ok-message.ensures in (
      pass_all (HandsOn (timed g.C.Clock.tells g.S.Submitter.hands)) _ _ _ _ _ c.loop-message.invariant (all_none (HandsOn (timed g.C.Clock.tells g.S.Submitter.hands)) _ _ none.0 none.1 none.2),
      none.3 ∙ sym none.1 ∙ sym c.loop-message.invariant.left,
    )
