use Rattle.std.proofs.Common.{◌≡◌, ◌≤◌, ◌+◌, ◌++◌, List, length, map, vec_len, vec_capacity}
use Rattle.std.specs.Vec.Iter.{into_iter_items}
use Rattle.dcc_running.specs.Batches.{all_receipts_of}
use Rattle.dcc_running.specs.inner.Batches.{AreAnswered, reply_of}
use Rattle.dcc_shard.specs.declared.answers.RequestAnswer.{RequestAnswer}
use Rattle.dcc_running.proofs.batches.keep_all.Given as goal

abbrev pub invariant-loop-job : goal.invariant-loop-job
invariant-loop-job l = record {
  pairs : AreAnswered (into_iter_items l.job-iterator) (into_iter_items l.replies);
  spares : length (into_iter_items l.job-iterator) ≤ length l.spares.items;
  room : vec_len l.receipts + length (into_iter_items l.job-iterator) ≤ vec_capacity l.receipts;
  answers : vec_len l.answers + length (into_iter_items l.job-iterator) ≤ vec_capacity l.answers;
  given : map reply_of l.answers.items ++ into_iter_items l.replies ≡ l.fn.replies.items;
  told : (more : List RequestAnswer) → l.receipts.items ++ all_receipts_of (into_iter_items l.job-iterator) more
      ≡ l.fn.receipts.items ++ all_receipts_of l.fn.jobs.items (l.answers.items ++ more);
}
