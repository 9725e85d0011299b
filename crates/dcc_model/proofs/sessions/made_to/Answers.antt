use Rattle.std.proofs.Common.{◌<◌, length, arith}
use Rattle.dcc_model.proofs.Holdings.{lives_granted, lives_refused}
use Rattle.dcc_model.proofs.sessions.made_to.Goals as goal
use Rattle.dcc_model.proofs.sessions.made_to.Goals.{in-Some+in_ok-copy+in_ok-push, in_default}

pub loop-answer-preserved : goal.loop-answer-preserved
loop-answer-preserved c =
    let lt : c.loop-answer.answer-index < length c.args.answers.now = omega arith in
    elim c.match-answer.branch [
      | in-Some+in_ok-copy+in_ok-push w ↦
          let more = lives_granted c.args.sid.now c.args.answers.now c.loop-answer.answer-index c.answer-item.result w.in-Some.grant lt c.answer-item.is w.in-Some.is in
          let copied = w.in_ok-copy.ensures in
          let pushed = w.in_ok-push.ensures.items in
          cc
      | in_default w ↦
          let more = lives_refused c.args.sid.now c.args.answers.now c.loop-answer.answer-index c.answer-item.result lt c.answer-item.is w.in_default.is in
          cc
    ]
