use Rattle.std.proofs.Common.{◌<◌, length, take, arith, Option, Some, None, ap, append-nil}
use Rattle.std.specs.Prelude.{filter_map, option_map}
use Rattle.dcc_act.specs.Answers.{answer_key}
use Rattle.dcc_act.specs.declared.grant.Grant.{Grant}
use Rattle.dcc_session.specs.declared.held.Held.{Held}
use Rattle.dcc_state.specs.Backed.{held_by}
use Rattle.dcc_state.proofs.Walks.{filter_map_more}
use Rattle.dcc_state.proofs.after.granted.Goals as goal
use Rattle.dcc_state.proofs.after.granted.Goals.{in-Some+in_ok-push, in_default}

pub loop-answer-preserved : goal.loop-answer-preserved
loop-answer-preserved c =
    let lt : c.loop-answer.answer-index < length c.args.answers.now = omega arith in
    let answer = c.answer-item.result in
    let more = λ (found : Option Held). filter_map_more held_by c.args.answers.now c.loop-answer.answer-index answer found lt c.answer-item.is in
    let by : Option Grant → Option Held = option_map (λ (grant : Grant). record { key = answer_key answer; grant = grant }) in
    elim c.match-answer.branch [
      | in-Some+in_ok-push w ↦
          let one = more (Some (record { key = answer_key answer; grant = w.in-Some.grant })) (ap by w.in-Some.is) in
          let pushed = w.in_ok-push.ensures.items in
          let is = w.granted-is in
          let key = w.key.ensures in
          let before = c.loop-answer.invariant in
          cc
      | in_default w ↦
          let one = more None (ap by w.in_default.is) in
          let is = w.granted-is in
          let before = c.loop-answer.invariant in
          let nothing = append-nil (filter_map held_by (take c.loop-answer.answer-index c.args.answers.now)) in
          cc
    ]
