use Rattle.std.proofs.Common.{◌≡◌, List, sym, subst, ◌∙◌}
use Rattle.std.proofs.lemmas.Iterator.Adapters.{YieldsList-from_vec}
use Rattle.std.proofs.lemmas.Iterator.Consumers.{YieldsList-end}
use mathlib.Core.List.{map-id}
use Rattle.dcc_rounds.specs.Finishing.{ArePartsOf}
use Rattle.dcc_rounds.specs.declared.tasks.Task.{Task}
use Rattle.dcc_rounds.proofs.LaneEnds.{parts_on}
use Rattle.dcc_rounds.proofs.finishing.parted.Goals as goal

pub loop-task-preserved : goal.loop-task-preserved
loop-task-preserved g c = parts_on c.loop-task.yielded c.in-Some.task c.loop-task.parts c.add_task.new.parts c.loop-task.invariant c.in-Ok.ensures

pub returns : goal.returns
returns g c =
    let gives = c.into_iter-task-iterator.ensures.into_iter_gives in
    let end = YieldsList-end (YieldsList-from_vec {s = c.into_iter-task-iterator.result} c.args.tasks.items gives.0 (gives.1 ∙ c.args.tasks.ok.0)) c.loop-task.yielded
    c.loop-task.task-iterator c.loop-task.yielded_by c.next.result c.next.new.self c.in-None.is c.next.ensures.steps in
    subst (λ (ts : List (Task g.row.I.Denot g.row.O.Denot)). ArePartsOf ts c.loop-task.parts) (sym (map-id c.loop-task.yielded) ∙ end.0) c.loop-task.invariant
