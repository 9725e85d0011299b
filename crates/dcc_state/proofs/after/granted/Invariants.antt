use Rattle.std.proofs.Common.{◌≡◌, take}
use Rattle.std.specs.Prelude.{filter_map}
use Rattle.dcc_state.specs.Backed.{held_by}
use Rattle.dcc_state.proofs.after.granted.Given as goal

abbrev pub invariant-loop-answer : goal.invariant-loop-answer
invariant-loop-answer l = l.granted.items ≡ filter_map held_by (take l.answer-index l.answers)
