use Rattle.std.proofs.Common.{◌∙◌, List, map, ap}
use Rattle.dcc_running.specs.Batches.{are_of_one_shard, sub_of_job}
use Rattle.dcc_running.specs.declared.job.Job.{Job}
use Rattle.dcc_shard.specs.Shards.{are_apart}
use Rattle.dcc_rounds.specs.Lanes.{all_put}
use Rattle.dcc_rounds.proofs.Batching.{answered_all, subs_of_requests}
use Rattle.dcc_rounds.proofs.batch.answer_batch.Goals as goal

pub answer_all-requires-clause-apart : goal.answer_all-requires-clause-apart
answer_all-requires-clause-apart g c =
    ap (λ (jobs : List Job). are_apart (map sub_of_job jobs)) c.parted-gates.ensures.jobs ∙ ap are_apart (subs_of_requests c.args.batch.now.items) ∙ c.requires.0

pub answer_all-requires-clause-shard : goal.answer_all-requires-clause-shard
answer_all-requires-clause-shard g c =
    let count = c.args.shards.now.count in
    ap (λ (jobs : List Job). are_of_one_shard count (map sub_of_job jobs)) c.parted-gates.ensures.jobs
    ∙ ap (are_of_one_shard count) (subs_of_requests c.args.batch.now.items) ∙ c.requires.1

pub returns-in-Ok-clause-answered : goal.returns-in-Ok-clause-answered
returns-in-Ok-clause-answered g c =
    let parts = c.parted-gates in
    answered_all c.args.batch.now.items parts.result.0.items parts.result.1.items (c.args.seat.now, all_put c.args.writers.now.items)
    (c.answer_all.new.seat, all_put c.answer_all.new.writers.items) parts.ensures.gates parts.ensures.jobs c.answer_all.ensures.answered
