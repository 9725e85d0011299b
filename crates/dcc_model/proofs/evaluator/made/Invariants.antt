use Rattle.std.proofs.Common.{◌≡◌, reverse, take}
use Rattle.dcc_model.specs.Outcomes.{history}
use Rattle.dcc_model.proofs.evaluator.made.Given as goal

abbrev pub invariant-loop-act : goal.invariant-loop-act
invariant-loop-act l = reverse l.past.items ≡ history l.terms (reverse (take l.act-index l.acts))
