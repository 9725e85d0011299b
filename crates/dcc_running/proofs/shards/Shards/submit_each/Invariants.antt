use Rattle.std.proofs.Common.{◌≡◌, ◌≤◌, ◌+◌, ◌++◌, true, List, length, vec_len, vec_capacity}
use Rattle.std.specs.List.{list_all}
use Rattle.std.specs.Vec.Iter.{into_iter_items}
use Rattle.dcc_running.specs.Batches.{AreAnswersTo, all_receipts_of, has_request}
use Rattle.dcc_shard.specs.declared.answers.RequestAnswer.{RequestAnswer}
use Rattle.dcc_running.proofs.shards.Shards.submit_each.Given as goal

abbrev pub invariant-loop-job : goal.invariant-loop-job
invariant-loop-job g l = record {
  requests : list_all has_request (into_iter_items l.job-iterator) ≡ true;
  room : vec_len l.answers + length (into_iter_items l.job-iterator) ≤ vec_capacity l.answers;
  answered : (more : List RequestAnswer) → AreAnswersTo (into_iter_items l.job-iterator) more → AreAnswersTo l.fn.jobs.items (l.answers.items ++ more);
  told : (more : List RequestAnswer) → l.seat ++ all_receipts_of (into_iter_items l.job-iterator) more
      ≡ l.fn.seat ++ all_receipts_of l.fn.jobs.items (l.answers.items ++ more);
}
