use Rattle.std.proofs.Common.{◌≡◌, take}
use Rattle.std.specs.Prelude.{filter_map}
use Rattle.dcc_model.specs.Sessions.{live_of}
use Rattle.dcc_model.proofs.sessions.made_to.Given as goal

abbrev pub invariant-loop-answer : goal.invariant-loop-answer
invariant-loop-answer l = l.made.items ≡ filter_map (live_of l.sid) (take l.answer-index l.answers)
