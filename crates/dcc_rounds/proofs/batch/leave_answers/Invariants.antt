use Rattle.std.proofs.Common.{◌≡◌, length}
use Rattle.std.specs.Vec.Iter.{into_iter_items}
use Rattle.dcc_rounds.specs.Lanes.{all_put, lanes_of}
use Rattle.dcc_rounds.specs.inner.Batches.{put_answers}
use Rattle.dcc_rounds.proofs.batch.leave_answers.Given as goal

abbrev pub invariant-loop-answer : goal.invariant-loop-answer
invariant-loop-answer g l = record {
  many : length (into_iter_items l.gates) ≡ length (into_iter_items l.answer-iterator);
  put : put_answers (into_iter_items l.gates) (into_iter_items l.answer-iterator) (all_put l.writers.items)
      ≡ put_answers l.fn.gates.items l.fn.answers.items (all_put l.fn.writers.items);
  lanes : lanes_of l.writers.items ≡ lanes_of l.fn.writers.items;
}
