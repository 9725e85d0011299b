use Rattle.std.proofs.Common.{◌≡◌, ◌++◌}
use Rattle.dcc_rounds.specs.Gathering.{attendants_of}
use Rattle.dcc_rounds.proofs.round.add_attendants.Given as goal

abbrev pub invariant-loop-added : goal.invariant-loop-added
invariant-loop-added g l = l.tasks.items ≡ l.fn.tasks.items ++ attendants_of l.added
