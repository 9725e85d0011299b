use Rattle.std.proofs.Common.{◌+◌, ◌∙◌, ap}
use Rattle.dcc_rounds.specs.Counting.{acts_in, answers_in, at_most, requests_in}
use Rattle.dcc_rounds.specs.declared.line.Counts.{Counts}
use Rattle.dcc_rounds.proofs.Counts.{total_more}
use Rattle.dcc_rounds.proofs.round.counted.Goals as goal

pub loop-task-preserved : goal.loop-task-preserved
loop-task-preserved g c =
    let tasks = c.args.tasks.now in
    let at = c.loop-task.task-index in
    let task = c.task-item.result in
    let was = c.loop-task.invariant in
    let within = c.loop-task-test.true in
    let requests = total_more requests_in tasks at task c.loop-task.counts.requests c.saturating_add.result within c.task-item.is
    (ap (λ (counts : Counts). counts.requests) was) (c.saturating_add.ensures ∙ ap (λ n. at_most (c.loop-task.counts.requests + n)) c.requests.ensures) in
    let answers = total_more answers_in tasks at task c.loop-task.counts.answers c.saturating_add-in-loop-task.result within c.task-item.is
    (ap (λ (counts : Counts). counts.answers) was) (c.saturating_add-in-loop-task.ensures ∙ ap (λ n. at_most (c.loop-task.counts.answers + n)) c.answers.ensures) in
    let acts = total_more acts_in tasks at task c.loop-task.counts.acts c.saturating_add-in-loop-task-2.result within c.task-item.is
    (ap (λ (counts : Counts). counts.acts) was) (c.saturating_add-in-loop-task-2.ensures ∙ ap (λ n. at_most (c.loop-task.counts.acts + n)) c.acts.ensures) in
    λ i. record { requests = requests i; answers = answers i; acts = acts i }
