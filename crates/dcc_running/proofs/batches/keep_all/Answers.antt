use Rattle.std.proofs.Common.{◌∙◌, ◌++◌, [], List, sym, ap, append-nil}
use Rattle.std.specs.Vec.Iter.{into_iter_items}
use Rattle.dcc_receipts.specs.declared.receipt.Receipt.{Receipt}
use Rattle.dcc_running.specs.Batches.{all_receipts_of}
use Rattle.dcc_shard.specs.declared.answers.RequestAnswer.{RequestAnswer}
use Rattle.dcc_running.proofs.Batching.{none_kept}
use Rattle.dcc_running.proofs.batches.keep_all.Goals as goal

pub returns-clause-receipts : goal.returns-clause-receipts
returns-clause-receipts c =
    let told = c.loop-job.receipts.items in
    sym (append-nil told) ∙ ap (λ (more : List Receipt). told ++ more) (sym (none_kept (into_iter_items c.loop-job.job-iterator))) ∙ c.loop-job.invariant.told []
    ∙ ap (λ (answers : List RequestAnswer). c.args.receipts.now.items ++ all_receipts_of c.args.jobs.items answers) (append-nil c.loop-job.answers.items)
