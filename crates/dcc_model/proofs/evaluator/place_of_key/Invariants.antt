use Rattle.std.proofs.Common.{◌≡◌, map, reverse, take}
use Rattle.dcc_model.specs.Outcomes.{act_made, place_of_key}
use Rattle.dcc_model.proofs.evaluator.place_of_key.Given as goal

abbrev pub invariant-loop-i : goal.invariant-loop-i
invariant-loop-i l = l.found ≡ place_of_key (map act_made (reverse (take l.i l.past))) l.kind
