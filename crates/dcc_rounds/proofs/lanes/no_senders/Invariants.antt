use Rattle.std.proofs.Common.{◌-◌, ◌≤◌, [], length, vec_len}
use Rattle.std.specs.List.{AllByRecursion}
use Rattle.dcc_rounds.specs.Lanes.{AreDealt, lists_of}
use Rattle.dcc_rounds.proofs.lanes.no_senders.Given as goal

abbrev pub decreases-loop-alloc : goal.decreases-loop-alloc
decreases-loop-alloc g l = l.putters - vec_len l.lists

abbrev pub invariant-loop-alloc : goal.invariant-loop-alloc
invariant-loop-alloc g l = record {
  few : length l.lists.items ≤ l.putters;
  none : AllByRecursion (AreDealt []) (lists_of l.lists.items);
}
