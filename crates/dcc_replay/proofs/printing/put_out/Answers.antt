use Rattle.std.proofs.Common.{arith, string_bytes}
use Rattle.dcc_replay.specs.Printed.{answered, closed, told}
use Rattle.dcc_replay.proofs.PrintingLemmas.{some_of, spoken}
use Rattle.dcc_replay.proofs.printing.put_out.Goals.{else-not-has_answer-via-then-not-has_answer+then-not-has_closing+else-not-has_told}
use Rattle.dcc_replay.proofs.printing.put_out.Goals.{else-not-has_answer-via-then-not-has_answer+else-not-has_closing}
use Rattle.dcc_replay.proofs.printing.put_out.Goals.{else-not-has_answer-via-else-not-has_answer}
use Rattle.dcc_replay.proofs.printing.put_out.Goals as goal

pub returns-else-not-has_answer : goal.returns-else-not-has_answer
returns-else-not-has_answer c =
    let out = c.args.out.now in
    spoken c.args.n (answered out) (closed out) (told out) (string_bytes c.args.text.now) _ _ _
    c.in_ok-has_answer.ensures.line c.in_ok-has_closing.ensures.line c.in_ok-has_told.ensures.line
    (elim c.else-not-has_answer.branch [
      | else-not-has_answer-via-then-not-has_answer+then-not-has_closing+else-not-has_told w ↦
          (let some = some_of (told out) _ c.in_ok-has_told.ensures.some w.if-not-has_told.false in omega arith)
      | else-not-has_answer-via-then-not-has_answer+else-not-has_closing w ↦
          (let some = some_of (closed out) _ c.in_ok-has_closing.ensures.some w.if-not-has_closing.false in omega arith)
      | else-not-has_answer-via-else-not-has_answer w ↦
          (let some = some_of (answered out) _ c.in_ok-has_answer.ensures.some w.if-not-has_answer.false in omega arith)
    ])
