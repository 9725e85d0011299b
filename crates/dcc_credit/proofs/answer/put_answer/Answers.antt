use Rattle.std.proofs.lemmas.Result.{IfOk-equal}
use Rattle.dcc_credit.specs.Answers.{answer_avps, head_avps, told_avps}
use Rattle.dcc_act.specs.Numbers.{result_number}
use Rattle.dcc_credit.proofs.Appended.{both_parts}
use Rattle.dcc_credit.proofs.answer.put_answer.Goals as goal

pub returns-in-Unknown-clause-ok : goal.returns-in-Unknown-clause-ok
unfolding answer_avps
returns-in-Unknown-clause-ok c = rw c.in-Unknown.is c.put_head.ensures.ok

pub returns-in_ok-put_head-in-Answered-clause-ok : goal.returns-in_ok-put_head-in-Answered-clause-ok
unfolding answer_avps
returns-in_ok-put_head-in-Answered-clause-ok c =
    let answer = c.in-Answered.answer in
    let head = rw c.number.ensures at c.in_ok-put_head-in-Answered.ensures.ok in
    let front = head_avps c.args.identity.now answer.request answer.key (result_number answer.result) in
    let back = told_avps c.args.terms.now answer in
    rw c.in-Answered.is
    (IfOk-equal c.put_told.result _ _ _ c.put_told.ensures.ok (both_parts c.args.out.now.items _ front back head))
