use Rattle.std.proofs.Common.{◌≡◌, vec_len}
use Rattle.dcc_rounds.specs.Lanes.{all_put, lanes_of}
use Rattle.dcc_rounds.specs.inner.Batches.{AnswersEach, Told}
use Rattle.dcc_rounds.proofs.batch.answer_each.Given as goal

abbrev pub invariant-loop-request : goal.invariant-loop-request
invariant-loop-request g l = record {
  left : (end : Told) → AnswersEach l.batch.items (l.seat, all_put l.writers.items) end → AnswersEach l.fn.batch.items (l.fn.seat, all_put l.fn.writers.items) end;
  lanes : lanes_of l.writers.items ≡ lanes_of l.fn.writers.items;
}

abbrev pub decreases-loop-request : goal.decreases-loop-request
decreases-loop-request g l = vec_len l.batch
