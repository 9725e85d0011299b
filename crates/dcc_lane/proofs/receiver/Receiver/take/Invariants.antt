use Rattle.std.proofs.Common.{◌≡◌}
use Rattle.dcc_lane.specs.Ends.{taken_of, IsSameReceiver}
use Rattle.dcc_lane.proofs.receiver.Receiver.take.Given as goal

abbrev pub invariant-loop : goal.invariant-loop
invariant-loop g l = record {
  same : IsSameReceiver l.fn.self l.self;
  taken : taken_of l.self ≡ taken_of l.fn.self;
}
