use Rattle.std.proofs.Common.{◌≡◌}
use Rattle.dcc_lane.specs.Ends.{put_of, IsSameSender}
use Rattle.dcc_lane.proofs.sender.Sender.put.Given as goal

abbrev pub invariant-loop : goal.invariant-loop
invariant-loop g l = record {
  same : IsSameSender l.fn.self l.self;
  put : put_of l.self ≡ put_of l.fn.self;
  item : l.item ≡ l.fn.item;
}
