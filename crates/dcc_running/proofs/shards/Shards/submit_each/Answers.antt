use Rattle.std.proofs.Common.{◌≡◌, ◌∙◌, ◌++◌, [], List, sym, ap, subst, append-nil, arith}
use Rattle.std.proofs.lemmas.List.{nil_from_length}
use Rattle.std.specs.Vec.Iter.{into_iter_items}
use Rattle.dcc_receipts.specs.declared.receipt.Receipt.{Receipt}
use Rattle.dcc_running.specs.Batches.{AreAnswersTo, all_receipts_of}
use Rattle.dcc_running.specs.declared.job.Job.{Job}
use Rattle.dcc_shard.specs.declared.answers.RequestAnswer.{RequestAnswer}
use Rattle.dcc_running.proofs.Batching.{none_kept}
use Rattle.dcc_running.proofs.shards.Shards.submit_each.Goals as goal

pub returns-clause-answers : goal.returns-clause-answers
returns-clause-answers g c =
    let left = into_iter_items c.loop-job.job-iterator in
    let none : left ≡ [] = nil_from_length left (omega (arith, c.in-None.ensures.steps.0, c.loop-job.job-iterator.rest.ok.0)) in
    subst (λ (answers : List RequestAnswer). AreAnswersTo c.args.jobs.items answers) (append-nil c.loop-job.answers.items)
    (c.loop-job.invariant.answered [] (subst (λ (jobs : List Job). AreAnswersTo jobs []) (sym none) tt))

pub returns-clause-receipts : goal.returns-clause-receipts
returns-clause-receipts g c =
    let told = c.loop-job.seat in
    sym (append-nil told) ∙ ap (λ (more : List Receipt). told ++ more) (sym (none_kept (into_iter_items c.loop-job.job-iterator))) ∙ c.loop-job.invariant.told []
    ∙ ap (λ (answers : List RequestAnswer). c.args.seat.now ++ all_receipts_of c.args.jobs.items answers) (append-nil c.loop-job.answers.items)
