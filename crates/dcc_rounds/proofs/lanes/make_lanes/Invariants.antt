use Rattle.std.proofs.Common.{◌≡◌, ◌-◌, ◌≤◌, length, vec_len}
use Rattle.std.specs.List.{AllByRecursion}
use Rattle.dcc_rounds.specs.Lanes.{AreDealt, IsNewReceiver, lists_of}
use Rattle.dcc_rounds.proofs.lanes.make_lanes.Given as goal

abbrev pub decreases-loop-alloc : goal.decreases-loop-alloc
decreases-loop-alloc g l = l.takers - vec_len l.receivers

abbrev pub invariant-loop-alloc : goal.invariant-loop-alloc
invariant-loop-alloc g l = record {
  few : length l.receivers.items ≤ l.takers;
  new : AllByRecursion (IsNewReceiver l.putters) l.receivers.items;
  lists : length l.senders.items ≡ l.putters;
  dealt : AllByRecursion (AreDealt l.receivers.items) (lists_of l.senders.items);
}
