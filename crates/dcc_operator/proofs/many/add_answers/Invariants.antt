use Rattle.std.proofs.Common.{◌≡◌, ◌≤◌, ◌+◌, ◌++◌, length, vec_capacity}
use Rattle.dcc_operator.specs.inner.Batches.{answers_in}
use Rattle.dcc_operator.proofs.many.add_answers.Given as goal

abbrev pub invariant-loop-replies : goal.invariant-loop-replies
invariant-loop-replies l = record {
  added : l.answers.items ++ answers_in l.replies.items ≡ l.fn.answers.items ++ answers_in l.fn.replies.items;
  room : length l.answers.items + length l.replies.items ≤ vec_capacity l.answers;
  kept : vec_capacity l.fn.answers ≤ vec_capacity l.answers;
}

abbrev pub decreases-loop-replies : goal.decreases-loop-replies
decreases-loop-replies l = length l.replies.items
