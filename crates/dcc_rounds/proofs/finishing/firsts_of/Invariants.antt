use Rattle.std.proofs.Common.{◌≡◌, ◌++◌, vec_len}
use Rattle.dcc_rounds.specs.Lanes.{firsts, lists_of, rests}
use Rattle.dcc_rounds.proofs.finishing.firsts_of.Given as goal

abbrev pub decreases-loop-list : goal.decreases-loop-list
decreases-loop-list g l = vec_len l.lists

abbrev pub invariant-loop-list : goal.invariant-loop-list
invariant-loop-list g l = record {
  firsts : l.firsts.items ++ firsts (lists_of l.lists.items) ≡ firsts (lists_of l.fn.lists.items);
  rests : lists_of l.rests.items ++ rests (lists_of l.lists.items) ≡ rests (lists_of l.fn.lists.items);
}
