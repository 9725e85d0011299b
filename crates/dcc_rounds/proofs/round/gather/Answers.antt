use Rattle.std.proofs.Common.{◌≡◌, ℕ, ◌+◌, ap, subst}
use Rattle.dcc_rounds.specs.Lanes.{AreLanes}
use Rattle.dcc_rounds.specs.Rounds.{RoundsView}
use Rattle.dcc_rounds.proofs.round.gather.Goals as goal

pub returns-in-Ok-add_tasks-clause-tasks : goal.returns-in-Ok-add_tasks-clause-tasks
returns-in-Ok-add_tasks-clause-tasks g c =
    let gates : c.rounds.inside.gates ≡ c.args.rounds.now.gates = ap (λ (r : RoundsView). r.gates) c.rounds.view_is in
    c.in-Ok-add_tasks.ensures.tasks c.args.count
    (subst (λ (n : ℕ). AreLanes c.args.count (n + 1) c.in_ok-work.work) gates c.in_ok-work.ensures)
    (subst (λ (n : ℕ). AreLanes n (c.args.count + 1) c.in-Ok.items) gates c.in-Ok.ensures)
    c.new-tasks.ensures.items
