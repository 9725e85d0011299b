use Rattle.std.proofs.Common.{◌≡◌, take}
use Rattle.dcc_act.proofs.service_answers.copied.Given as goal

abbrev pub invariant-loop-answer : goal.invariant-loop-answer
invariant-loop-answer l = l.copies.items ≡ take l.answer-index l.items
